use Rattle.player.specs.Block.{plan_words}
use Rattle.player.proofs.block.resume_words.Goals as goal

pub returns : goal.returns
unfolding plan_words
returns c = rw (c.plan_array.ensures, c.assembly_words-h.ensures, c.rule_word-rule.ensures)
