use mathlib.Core.Path.{refl}
use Rattle.blocks.proofs.Words.{got_none, got_more, got_all}
use borrow.Author.Rules.{rules}
use Rattle.blocks.proofs.read_words.Goals as goal

pub loop-i-init : goal.loop-i-init
loop-i-init c = got_none _ _ 24 refl

pub loop-i-preserved : goal.loop-i-preserved
loop-i-preserved c = got_more c.loop-i.invariant c.loop-i-test.true c.read_u64.ensures

pub returns : goal.returns
returns c = got_all c.loop-i.invariant (search rules)
