-- What inspecting the hint section and the confirmations answers: numbers, and the cursor behind what was read.
use Rattle.std.specs.Prelude.{ℕ, ◌-◌, List, length}
use Rattle.rules.specs.declared.Confirmation.{Confirmation}
use Rattle.rules.specs.Tests.{Answer, Refused, Accepted}
use Rattle.rules.specs.Load.{Read, HintSection}
use Rattle.inspect.specs.declared.cursor.Cursor.{Cursor}
use Rattle.inspect.specs.declared.cursor.Word.{Word}
use Rattle.inspect.specs.declared.cursor.Word.TheVariants as word
use Rattle.inspect.specs.declared.cursor.Headed.{Headed}
use Rattle.inspect.specs.declared.cursor.Headed.TheVariants as headed
use Rattle.inspect.specs.Cursors.{to}

-- where the last bytes of s begin
abbrev pub behind : List ℕ → List ℕ → Cursor
behind s rest = to (length s - length rest)

-- the header of a hint section in the body s
unfoldable pub headed_of : List ℕ → Answer (Read HintSection) → Headed
headed_of s (Refused n) = headed.Refused n
headed_of s (Accepted t) = headed.Header t.value.header (behind s t.rest)

-- the count of the confirmations in the body s
unfoldable pub counted_of : List ℕ → Answer (Read (List Confirmation)) → Word
counted_of s (Refused n) = word.Refused n
counted_of s (Accepted t) = word.Number (length t.value) (behind s t.rest)
