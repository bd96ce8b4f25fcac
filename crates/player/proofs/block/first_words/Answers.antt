use Rattle.player.specs.Block.{first_words}
use Rattle.player.proofs.block.first_words.Goals as goal

pub returns : goal.returns
unfolding first_words
returns c = rw c.first_told-t.ensures
