use Rattle.tables.specs.Tables.{parts_in}
use Rattle.rules_view.specs.View.{lengths_of, encode_held_length}
use Rattle.view.proofs.Layouts.{length_layout}
use Rattle.view.proofs.write.Laying.{laid_none, laid_more, laid_all, lengths_are, lengths_more, length_put}
use mathlib.Core.Path.{refl}
use native.Mathlib.Omega.{arith}
use Rattle.field.specs.Records.{records}
use Rattle.view.proofs.write.write_lengths.Goals as goal

pub loop-j-init : goal.loop-j-init
unfolding records lengths_of
loop-j-init c = laid_none _ _

pub loop-j-preserved : goal.loop-j-preserved
loop-j-preserved c =
    laid_more encode_held_length length_layout.size _ _ _ refl (lengths_are _ _) (lengths_more _ _) c.loop-j.invariant
    (length_put _ _ c.read_held-p.ensures c.write_header.ensures) c.write_header.auto.t

pub returns : goal.returns
returns c = laid_all encode_held_length length_layout.size (λ k. lengths_of (parts_in k c.args.table.now)) (λ k. lengths_are k c.args.table.now) (omega arith) (omega arith) c.loop-j.invariant c.requires.1
