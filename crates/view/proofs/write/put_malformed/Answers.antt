use Rattle.laws.proofs.Layouts.{lsn_layout}
use Rattle.view.proofs.write.Laying.{copied, copied_bytes}
use Rattle.save.proofs.output.Stretches.{lent}
use native.Mathlib.Omega.{arith}
use mathlib.Core.Path.{refl}
use Rattle.view.proofs.write.put_malformed.Goals as goal

pub returns : goal.returns
returns c = lent _ _ _ _ _ (copied_bytes lsn_layout _ _) refl (omega arith) (copied lsn_layout _ _ _ (λ i. (c.type_inv.table i).fits) c.requires.0 c.copy_first.ensures)
