-- What the room's calls answer: the gap of a hint, one less, and a table that begins with the hints that stay.
use Rattle.std.specs.Prelude.{ℕ, suc, Bool, cond, List}
use Rattle.rules.specs.declared.Hint.{Hint}
use Rattle.rules.specs.Values.{max32}
use Rattle.rules.specs.Sections.{is_kept}
use Rattle.rules.specs.Hints.{rise}
use Rattle.tables.specs.Tables.{encode_kept}
use Rattle.laws.specs.Passes.{Begins}

abbrev pub one : Bool → ℕ
one b = cond b 1 0

-- the gap of a hint behind the number before it
unfoldable pub gap_from : ℕ → Hint → ℕ
gap_from before h = cond (is_kept h) (suc max32) (rise before h.number)

-- the table new is old with the r hints xs at its start
abbrev pub Starts : List Hint → ℕ → List ℕ → List ℕ → Type 0
Starts xs r old new = Begins 8 encode_kept xs r old new
