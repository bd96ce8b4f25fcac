-- The rows of a table are those of lines. Assumes nothing.
use Prim.Native.Nat.{ℕ, ◌+◌, ◌≤◌, ◌<◌, min}
use mathlib.Core.List.{List, [], ◌∷◌, ◌++◌}
use native.Mathlib.Omega.{arith}
use lib.ListN.{length, length-append}
use lib.Seq.{take_all}
use Rattle.field.specs.Records.{records}
use Rattle.field.proofs.Records.{records_length}
use Rattle.sheet.specs.Rows.{words_row, rows_in}
use Rattle.coverage.specs.Sheets.{Answered, nothing, further, Rows}

pub no_rows : (t : List ℕ) → Rows 0 t
unfolding rows_in records
no_rows t = nothing

rows_few : (n : ℕ) (t : List ℕ) → length (rows_in n t) ≤ n
unfolding rows_in
rows_few n t = let l = records_length 4 words_row (min n 1000) t in omega arith

pub more_rows : (n : ℕ) {s before after outBefore outAfter : List ℕ} → n < 1000 → Answered n s before after outBefore outAfter → Rows n before → Rows (n + 1) after
more_rows n {s} {before} {after} h a r =
    let l = rows_few n before in
    let k = length-append (rows_in n before) (a.answer ∷ []) in
    rw (a.rows, take_all 1000 (rows_in n before ++ (a.answer ∷ [])) (omega arith)) (further r a.of_line)
