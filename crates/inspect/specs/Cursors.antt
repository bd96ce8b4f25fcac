-- What a cursor reads.
use Rattle.std.specs.Prelude.{ℕ, ◌+◌, cond, List, leb, length, take, drop}
use Rattle.field.specs.Number.{number_at}
use Rattle.rules.specs.File.{decode_held}
use Rattle.rules.specs.Load.{decode_hint_header}
use Rattle.inspect.specs.declared.cursor.Cursor.{Cursor}
use Rattle.inspect.specs.declared.cursor.Word.{Word}
use Rattle.inspect.specs.declared.cursor.Word.TheVariants as word
use Rattle.inspect.specs.declared.cursor.Long.{Long}
use Rattle.inspect.specs.declared.cursor.Long.TheVariants as long
use Rattle.inspect.specs.declared.cursor.Pair.{Pair}
use Rattle.inspect.specs.declared.cursor.Pair.TheVariants as pair
use Rattle.inspect.specs.declared.cursor.OneHeld.{OneHeld}
use Rattle.inspect.specs.declared.cursor.OneHeld.TheVariants as held
use Rattle.inspect.specs.declared.cursor.Headed.{Headed}
use Rattle.inspect.specs.declared.cursor.Headed.TheVariants as headed

abbrev pub to : ℕ → Cursor
to at = record { at = at }

-- the number at a place and the place behind it, or 20
unfoldable pub word_at : List ℕ → ℕ → Word
word_at s at = cond (leb (at + 4) (length s)) (word.Number (number_at 4 s at) (to (at + 4))) (word.Refused 20)

unfoldable pub long_at : List ℕ → ℕ → Long
long_at s at = cond (leb (at + 8) (length s)) (long.Number (number_at 8 s at) (to (at + 8))) (long.Refused 20)

unfoldable pub pair_at : List ℕ → ℕ → Pair
pair_at s at = cond (leb (at + 8) (length s)) (pair.Numbers (number_at 4 s at) (number_at 4 s (at + 4)) (to (at + 8))) (pair.Refused 20)

-- 33 where the kind is above 1
unfoldable pub held_at : List ℕ → ℕ → OneHeld
held_at s at =
    cond (leb (at + 24) (length s))
    (cond (leb (number_at 4 s (at + 20)) 1) (held.Part (decode_held (take 24 (drop at s))) (to (at + 24))) (held.Refused 33))
    (held.Refused 20)

unfoldable pub headed_at : List ℕ → ℕ → Headed
headed_at s at = cond (leb (at + 24) (length s)) (headed.Header (decode_hint_header (drop at s)) (to (at + 24))) (headed.Refused 20)
