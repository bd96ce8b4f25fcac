use mathlib.Core.Path.{refl}
use Rattle.player.specs.Block.{area_words}
use Rattle.player.proofs.block.area_words.Goals as goal

pub returns : goal.returns
unfolding area_words
returns c = refl
