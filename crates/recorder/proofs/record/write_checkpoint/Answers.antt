use Rattle.recorder.proofs.record.Writing.{checkpoint_put}
use borrow.Author.Rules.{rules}
use Rattle.recorder.proofs.record.write_checkpoint.Goals as goal

pub returns : goal.returns
returns c = (
  checkpoint_put _ _ c.args.c c.write_u32.ensures c.write_u32-2.ensures c.write_u64.ensures
      c.write_u64-2.ensures,
  λ i. search rules,
)
