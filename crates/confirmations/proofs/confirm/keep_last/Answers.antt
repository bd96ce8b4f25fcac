use native.Mathlib.Omega.{arith}
use Rattle.confirmations.proofs.confirm.Kept.{keep_fits, keep_keeps}
use Rattle.confirmations.proofs.confirm.keep_last.Goals as goal

pub merge_down-requires : goal.merge_down-requires
merge_down-requires c =
    keep_fits c.args.most c.args.c c.args.d c.args.t.now _ c.args.o.now _ _ _ c.requires c.count_last-s.ensures
    (omega (arith, c.move_up.auto)) c.move_up.ensures

pub returns : goal.returns
returns c =
    keep_keeps c.args.most c.args.c c.args.d c.args.t.now _ c.args.o.now _ _ _ c.requires c.count_last-s.ensures
    (omega (arith, c.move_up.auto)) c.move_up.ensures c.merge_down.ensures
