use Rattle.tables.specs.Tables.{kept_in, decode_kept}
use Rattle.rules_view.specs.View.{encode_mark}
use Rattle.field.proofs.Records.{records_length}
use Rattle.view.proofs.Layouts.{mark_length}
use Rattle.view.proofs.write.Laying.{laid_none, laid_all, marks_more}
use mathlib.Core.Path.{refl}
use native.Mathlib.Omega.{arith}
use Rattle.field.specs.Records.{records}
use Rattle.view.proofs.write.write_marks.Goals as goal

pub loop-j-init : goal.loop-j-init
unfolding records
loop-j-init c = laid_none _ _

pub loop-j-preserved : goal.loop-j-preserved
loop-j-preserved c = marks_more _ _ c.loop-j.invariant refl (λ k. (c.type_inv.table k).fits) (omega arith)

pub returns : goal.returns
returns c = laid_all encode_mark mark_length (λ k. kept_in k c.args.table.now) (λ k. records_length 8 decode_kept k c.args.table.now) (omega arith) (omega arith) c.loop-j.invariant (omega (arith, c.requires.1))
