use Rattle.view.proofs.write.Laying.{marks_bytes}
use Rattle.save.proofs.output.Stretches.{lent}
use native.Mathlib.Omega.{arith}
use mathlib.Core.Path.{refl}
use Rattle.view.proofs.write.put_marks.Goals as goal

pub returns : goal.returns
returns c = lent _ _ _ _ _ (marks_bytes _ _) refl (omega arith) c.write_marks.ensures
