use Rattle.player_disc.specs.Block.{loaded_into}
use Rattle.player_disc.proofs.block.Loading.{lists_put}
use Rattle.player_disc.proofs.block.put_loaded.Goals as goal

pub returns-in-Refused : goal.returns-in-Refused
unfolding loaded_into
returns-in-Refused c = rw c.in-Refused.is

pub returns-in-Lists : goal.returns-in-Lists
returns-in-Lists c = lists_put _ _ _ c.in-Lists.is c.put_listed-first.ensures c.put_listed-second.ensures (rw c.two_words.ensures at c.write_words.ensures)
