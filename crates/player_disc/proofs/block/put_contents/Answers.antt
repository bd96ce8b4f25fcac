use Rattle.player_disc.specs.Block.{contents_into}
use Rattle.player_disc.proofs.block.put_contents.Goals as goal

pub returns-in-Broken : goal.returns-in-Broken
unfolding contents_into
returns-in-Broken c = rw c.in-Broken.is

pub returns-in-Lists : goal.returns-in-Lists
unfolding contents_into
returns-in-Lists c = rw (c.in-Lists.is, c.write_words.ensures, c.contents_words.ensures, c.place_words-q.ensures, c.place_words-p.ensures)
