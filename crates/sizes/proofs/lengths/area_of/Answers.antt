use Rattle.sizes.specs.Sizes.{range_of}
use Rattle.sizes.proofs.lengths.area_of.Goals as goal

pub returns : goal.returns
unfolding range_of
returns c = rw (c.max.ensures, c.min-end.ensures)
