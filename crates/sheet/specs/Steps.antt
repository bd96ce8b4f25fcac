-- What only the proofs of this crate use: a row's words, and the sums while they are made.
use Rattle.std.specs.Prelude.{ℕ, ◌*◌, ◌≤◌, List, [], ◌∷◌}
use Rattle.field.specs.Records.{record_at}
use Rattle.rules.specs.Tests.{Answer, Refused, Accepted}
use Rattle.rules_coverage.specs.declared.Row.{Row}
use Rattle.rules_coverage.specs.Coverage.{plus}
use Rattle.sheet.specs.declared.row.RowAnswer.{RowAnswer}
use Rattle.sheet.specs.declared.row.RowAnswer.TheVariants as answer
use Rattle.sheet.specs.Rows.{words_row}

unfoldable pub row_words : RowAnswer → List ℕ
row_words (answer.Refused n) = 0 ∷ n ∷ 0 ∷ 0 ∷ []
row_words (answer.Accepted n b h) = 1 ∷ n ∷ b ∷ h ∷ []

-- the sums with one more answer
unfoldable pub added_to : Row → Answer Row → Row
added_to t (Refused n) = t
added_to t (Accepted r) = plus t r

-- with record number i of a table
unfoldable pub added : Row → List ℕ → ℕ → Row
added t table i = added_to t (record_at 4 words_row table i)

-- no sum wraps: each is of at most n numbers of 32 bits
pub record Small (n : ℕ) (t : Row) : Type 0 where
  pub checkpoints : t.checkpoints ≤ n * 4294967295
  pub boundaries : t.boundaries ≤ n * 4294967295
  pub held : t.held ≤ n * 4294967295
