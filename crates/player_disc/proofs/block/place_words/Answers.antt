use Rattle.player_disc.specs.Block.{place_words}
use Rattle.player_disc.proofs.block.place_words.Goals as goal

pub returns-in-Absent : goal.returns-in-Absent
unfolding place_words
returns-in-Absent c = rw c.in-Absent.is

pub returns-in-At : goal.returns-in-At
unfolding place_words
returns-in-At c = rw c.in-At.is
