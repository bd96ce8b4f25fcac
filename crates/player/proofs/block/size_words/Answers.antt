use mathlib.Core.Path.{refl}
use Rattle.player.specs.Block.{size_words}
use Rattle.player.proofs.block.size_words.Goals as goal

pub returns : goal.returns
unfolding size_words
returns c = refl
