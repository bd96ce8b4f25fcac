use Rattle.tables.specs.Tables.{checkpoints_in}
use Rattle.rules_view.specs.View.{backings_of, encode_backing}
use Rattle.view.proofs.Layouts.{behind_layout}
use Rattle.view.proofs.write.Laying.{laid_none, laid_more, laid_all, behind_are, behind_more}
use mathlib.Core.Path.{refl}
use native.Mathlib.Omega.{arith}
use Rattle.field.specs.Records.{records}
use Rattle.view.proofs.write.write_backings.Goals as goal

pub loop-j-init : goal.loop-j-init
unfolding records backings_of
loop-j-init c = laid_none _ _

pub loop-j-preserved : goal.loop-j-preserved
loop-j-preserved c =
    laid_more encode_backing behind_layout.size _ _ _ refl (behind_are _ _) (behind_more _ _) c.loop-j.invariant
    (rw c.read_checkpoint.ensures at c.write_backing.ensures) c.write_backing.auto.out

pub returns : goal.returns
returns c = laid_all encode_backing behind_layout.size (λ k. backings_of (checkpoints_in k c.args.table.now)) (λ k. behind_are k c.args.table.now) (omega arith) (omega arith) c.loop-j.invariant c.requires.1
