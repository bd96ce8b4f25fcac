use Rattle.view.proofs.write.Laying.{behind_bytes}
use Rattle.save.proofs.output.Stretches.{lent}
use native.Mathlib.Omega.{arith}
use Rattle.view.proofs.write.put_backings.Goals as goal

pub returns : goal.returns
returns c = lent _ _ _ _ _ (behind_bytes _ _) (omega arith) (omega arith) c.write_backings.ensures
