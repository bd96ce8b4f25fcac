use Rattle.tables.specs.Tables.{decode_header}
use native.Mathlib.Nat.{add-zero}
use Rattle.field.proofs.Number.{number_part}
use Rattle.tables.proofs.header_at.Goals as goal

pub returns : goal.returns
unfolding decode_header
returns c = simp (number_part, add-zero) (cc)
