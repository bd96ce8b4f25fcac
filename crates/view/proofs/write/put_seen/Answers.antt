use Rattle.view.proofs.write.Laying.{seen_bytes}
use Rattle.save.proofs.output.Stretches.{lent}
use native.Mathlib.Omega.{arith}
use mathlib.Core.Path.{refl}
use Rattle.view.proofs.write.put_seen.Goals as goal

pub returns : goal.returns
returns c = lent _ _ _ _ _ (seen_bytes _ _ _ _) refl (omega arith) c.write_seen.ensures
