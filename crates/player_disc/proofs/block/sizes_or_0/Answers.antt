use Rattle.disc_load.specs.DiscLoad.{slot_sizes_of}
use Rattle.player_disc.specs.Block.{sizes_or0}
use borrow.Author.Rules.{rules}
use Rattle.player_disc.proofs.block.sizes_or_0.Goals as goal

pub returns-in-Absent : goal.returns-in-Absent
unfolding sizes_or0 slot_sizes_of
returns-in-Absent c = rw c.in-Absent.is

pub returns-in-Sizes : goal.returns-in-Sizes
unfolding sizes_or0 slot_sizes_of
returns-in-Sizes c = search rules
