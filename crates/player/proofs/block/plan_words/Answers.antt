use Rattle.player.specs.Block.{plan_words}
use Rattle.player.proofs.block.plan_words.Goals as goal

pub returns-in-Start : goal.returns-in-Start
unfolding plan_words
returns-in-Start c = rw (c.plan_array.ensures, c.assembly_words.ensures, c.rule_word-rule.ensures, c.in-Start.is)

pub returns-in-At : goal.returns-in-At
returns-in-At c = rw c.in-At.is c.resume_words.ensures

pub returns-in-End : goal.returns-in-End
unfolding plan_words
returns-in-End c = rw (c.plan_array-in-End.ensures, c.assembly_words-in-End.ensures, c.rule_word-rule.ensures, c.in-End.is)
