use Rattle.disc_load.specs.DiscLoad.{slot_sizes_of}
use Rattle.player_disc.specs.Block.{is_present}
use borrow.Author.Rules.{rules}
use Rattle.player_disc.proofs.block.is_present.Goals as goal

pub returns-in-Absent : goal.returns-in-Absent
unfolding is_present slot_sizes_of
returns-in-Absent c = search rules

pub returns-in-Sizes : goal.returns-in-Sizes
unfolding is_present slot_sizes_of
returns-in-Sizes c = search rules
