use Rattle.player.specs.Player.{lacks_words}
use Rattle.player.proofs.lacks_calls.lacks_words.Goals as goal

pub returns : goal.returns
unfolding lacks_words
returns c = cc
