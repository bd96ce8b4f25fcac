use Rattle.view.proofs.write.Laying.{backing_put}
use Rattle.view.proofs.write.write_backing.Goals as goal

pub returns : goal.returns
returns c = backing_put _ _ c.args.c c.write_u32.ensures c.write_u64.ensures
