use Rattle.player_disc.specs.Block.{listed_into}
use Rattle.player_disc.proofs.block.put_listed.Goals as goal

pub returns-in-Absent : goal.returns-in-Absent
unfolding listed_into
returns-in-Absent c = rw c.in-Absent.is

pub returns-in-Index : goal.returns-in-Index
unfolding listed_into
returns-in-Index c = rw (c.in-Index.is, c.write_words.ensures, c.index_words.ensures)
