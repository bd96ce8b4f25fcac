use Rattle.view.proofs.write.Laying.{lengths_bytes}
use Rattle.save.proofs.output.Stretches.{lent}
use native.Mathlib.Omega.{arith}
use mathlib.Core.Path.{refl}
use Rattle.view.proofs.write.put_lengths.Goals as goal

pub returns : goal.returns
returns c = lent _ _ _ _ _ (lengths_bytes _ _) refl (omega arith) c.write_lengths.ensures
