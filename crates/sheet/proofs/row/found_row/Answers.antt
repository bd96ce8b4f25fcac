use Rattle.sheet.specs.Rows.{found_row}
use Rattle.sizes.proofs.lengths.Boundaries.{boundaries_small}
use native.Mathlib.Omega.{arith}
use Rattle.sheet.proofs.row.found_row.Goals as goal

pub overflow_cast-result : goal.overflow_cast-result
overflow_cast-result c = omega (arith, c.area_boundaries-boundaries.ensures, boundaries_small c.args.found.index.area c.args.found.index.interval c.requires.0)

pub returns : goal.returns
unfolding found_row
returns c = rw c.area_boundaries-boundaries.ensures
