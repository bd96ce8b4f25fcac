use Rattle.blocks.specs.Calls.{into}
use Rattle.player.proofs.block.put_first.Goals as goal

pub returns : goal.returns
unfolding into
returns c = rw (c.write_words.ensures, c.first_words.ensures)
