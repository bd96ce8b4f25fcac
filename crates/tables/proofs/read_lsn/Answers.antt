use Rattle.rules.specs.File.{decode_lsn}
use native.Mathlib.Nat.{add-zero}
use Rattle.field.proofs.Number.{number_part}
use Rattle.tables.proofs.read_lsn.Goals as goal

pub returns : goal.returns
unfolding decode_lsn
returns c = simp (number_part, add-zero) (cc)
