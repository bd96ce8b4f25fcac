use Rattle.rules.specs.File.{decode_confirmation}
use native.Mathlib.Nat.{add-zero}
use Rattle.field.proofs.Number.{number_part}
use Rattle.tables.proofs.read_confirmation.Goals as goal

pub returns : goal.returns
unfolding decode_confirmation
returns c = simp (number_part, add-zero) (cc)
