use Rattle.view.proofs.write.Laying.{hints_bytes}
use Rattle.save.proofs.output.Stretches.{lent}
use native.Mathlib.Omega.{arith}
use mathlib.Core.Path.{refl}
use Rattle.view.proofs.write.put_hints.Goals as goal

pub returns : goal.returns
returns c = lent _ _ _ _ _ (hints_bytes _ _) refl (omega arith) c.write_hints.ensures
