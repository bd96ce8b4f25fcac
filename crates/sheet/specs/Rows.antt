-- What the row of a file answers, and the table of rows.
use Rattle.std.specs.Prelude.{ℕ, min, Bool, cond, List, eqb, leb, ltb, length, get_or, Option, None, Some}
use Rattle.field.specs.Records.{records}
use Rattle.rules.specs.declared.AreaKey.{AreaKey}
use Rattle.rules.specs.Tests.{Answer, Refused, Accepted}
use Rattle.rules.specs.Values.{boundaries}
use Rattle.inspect.specs.declared.Found.{Found}
use Rattle.rules_coverage.specs.declared.Row.{Row}
use Rattle.rules_coverage.specs.Lines.{most_lines}
use Rattle.rules_coverage.specs.Coverage.{row, key_in}
use Rattle.sheet.specs.declared.row.RowAnswer.{RowAnswer}
use Rattle.sheet.specs.declared.row.RowAnswer.TheVariants as answer

unfoldable pub answer_in : RowAnswer → Answer Row
answer_in (answer.Refused n) = Refused n
answer_in (answer.Accepted n b h) = Accepted (row n b h)

-- the bytes of a file, where they could be read
unfoldable pub file_in : Bool → List ℕ → Option (List ℕ)
file_in whole b = cond whole (Some b) None

-- ---- the table: four numbers of 32 bits for each row, 1 and those of an accepted one, or 0, the refusal number and two that do not count
unfoldable pub words_row : List ℕ → Answer Row
words_row ws = cond (eqb (get_or ws 0 0) 1) (Accepted (row (get_or ws 1 0) (get_or ws 2 0) (get_or ws 3 0))) (Refused (get_or ws 1 0))

-- the first n rows, at most 1,000
unfoldable pub rows_in : ℕ → List ℕ → List (Answer Row)
rows_in n t = records 4 words_row (min n most_lines) t

-- ---- steps
-- the key that a file is inspected under
unfoldable pub asked_slot : ℕ → ℕ
asked_slot s = cond (leb s 1) s 0

abbrev pub asked : AreaKey → AreaKey
asked k = record { slot = asked_slot k.slot; start = k.start; end = k.end; channels = k.channels; sectors = k.sectors }

abbrev pub no_key : AreaKey
no_key = record { slot = 0; start = 0; end = 0; channels = 0; sectors = 0 }

unfoldable pub asked_key : List ℕ → AreaKey
asked_key b = cond (ltb (length b) 88) no_key (asked (key_in b))

unfoldable pub found_row : Found → RowAnswer
found_row f = answer.Accepted f.index.checkpoints (boundaries f.index.area f.index.interval) f.used
