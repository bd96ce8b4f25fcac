-- Each hash is evaluated.
use Rattle.fnv.specs.Fnv.{fnv_from}
use Rattle.examples.proofs.sums.long_sums.Goals as goal

pub returns : goal.returns
unfolding fnv_from
returns c = rw (c.long_line.ensures, c.long_line-t-2.ensures, c.long_line-t.ensures)
