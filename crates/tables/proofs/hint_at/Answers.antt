use Rattle.rules.specs.File.{decode_hint}
use native.Mathlib.Nat.{add-zero}
use Rattle.field.proofs.Number.{number_drop}
use Rattle.tables.proofs.hint_at.Goals as goal

pub returns : goal.returns
unfolding decode_hint
returns c = simp (number_drop, add-zero) (cc)
