use Rattle.rules.specs.File.{decode_checkpoint}
use native.Mathlib.Nat.{add-zero}
use Rattle.field.proofs.Number.{number_part}
use Rattle.tables.proofs.read_checkpoint.Goals as goal

pub returns : goal.returns
unfolding decode_checkpoint
returns c = simp (number_part, add-zero) (cc)
