use Rattle.blocks.proofs.Words.{put_none, put_more, put_all}
use borrow.Author.Rules.{rules}
use Rattle.view.proofs.write.write_words.Goals as goal

pub loop-i-init : goal.loop-i-init
loop-i-init c = put_none _ _ (search rules)

pub loop-i-preserved : goal.loop-i-preserved
loop-i-preserved c = put_more c.loop-i.invariant (search rules) c.write_u64.ensures

pub returns : goal.returns
returns c = put_all c.loop-i.invariant (search rules)
