use Rattle.blocks.specs.Calls.{into}
use Rattle.disc_load.specs.DiscLoad.{disc_sized_of}
use Rattle.player_disc.specs.Block.{disc_size_words}
use Rattle.player_disc.proofs.block.put_disc_sizes.Goals as goal

pub returns-in-Refused : goal.returns-in-Refused
unfolding into disc_sized_of
returns-in-Refused c = rw c.in-Refused.is

pub returns-in-Sizes : goal.returns-in-Sizes
unfolding into disc_sized_of disc_size_words
returns-in-Sizes c =
    rw (
      c.in-Sizes.is,
      c.write_words.ensures,
      c.slot_words-words.ensures,
      c.is_present-in-Sizes.ensures,
      c.is_present.ensures,
      c.sizes_or_0-t.ensures,
      c.sizes_or_0-s.ensures,
    )
