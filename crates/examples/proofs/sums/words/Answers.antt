-- Each hash is evaluated.
use Rattle.fnv.specs.Fnv.{fnv_from}
use Rattle.examples.proofs.sums.words.Goals as goal

pub returns : goal.returns
unfolding fnv_from
returns c = rw (c.short_line.ensures, c.short_line-t-4.ensures, c.short_line-t-3.ensures, c.short_line-t-2.ensures, c.short_line-t.ensures)
