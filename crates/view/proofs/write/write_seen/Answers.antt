use Rattle.tables.specs.Tables.{checkpoints_in}
use Rattle.rules_view.specs.View.{seen_from, encode_seen}
use Rattle.view.proofs.Layouts.{seen_layout}
use Rattle.view.proofs.write.Laying.{laid_none, laid_more, laid_all, seen_are, seen_more, seen_put}
use mathlib.Core.Path.{refl}
use native.Mathlib.Omega.{arith}
use Rattle.field.specs.Records.{records}
use Rattle.view.proofs.write.write_seen.Goals as goal

pub loop-j-init : goal.loop-j-init
unfolding records seen_from
loop-j-init c = laid_none _ _

pub loop-j-preserved : goal.loop-j-preserved
loop-j-preserved c =
    laid_more encode_seen seen_layout.size _ _ _ refl (seen_are _ _ _ _) (seen_more _ _ _ _) c.loop-j.invariant
    (seen_put _ _ c.lsn_at-lsn.ensures c.read_checkpoint-c.ensures c.write_header.ensures) c.write_header.auto.t

pub returns : goal.returns
returns c = laid_all encode_seen seen_layout.size (λ k. seen_from c.args.x.area c.args.x.interval 0 (checkpoints_in k c.args.table.now)) (λ k. seen_are c.args.x.area c.args.x.interval k c.args.table.now) (omega arith) (omega arith) c.loop-j.invariant c.requires.2
