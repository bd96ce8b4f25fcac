use Rattle.sizes.specs.Steps.{limited_sizes}
use Rattle.sizes.proofs.lengths.limited_sizes.Goals as goal

pub returns : goal.returns
unfolding limited_sizes
returns c = rw (c.table_sizes.ensures, c.min.ensures, c.min-most.ensures)
