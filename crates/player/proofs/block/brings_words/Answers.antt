use Rattle.player.specs.Block.{brings_words}
use Rattle.player.proofs.block.brings_words.Goals as goal

pub returns : goal.returns
unfolding brings_words
returns c = cc
