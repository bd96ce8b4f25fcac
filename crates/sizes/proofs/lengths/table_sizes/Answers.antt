use native.Mathlib.Omega.{arith}
use Rattle.sizes.specs.Sizes.{sizes_of}
use Rattle.sizes.proofs.lengths.Boundaries.{boundaries_small}
use Rattle.sizes.proofs.lengths.table_sizes.Goals as goal

pub overflow_mul-result : goal.overflow_mul-result
overflow_mul-result c = let s = boundaries_small _ c.args.interval c.requires in omega (arith, c.area_boundaries-b.ensures, s)

pub overflow_mul-result-2 : goal.overflow_mul-result-2
overflow_mul-result-2 c = let s = boundaries_small _ c.args.interval c.requires in omega (arith, c.area_boundaries-b.ensures, s)

pub overflow_mul-result-3 : goal.overflow_mul-result-3
overflow_mul-result-3 c = let s = boundaries_small _ c.args.interval c.requires in omega (arith, c.area_boundaries-b.ensures, s)

pub returns : goal.returns
unfolding sizes_of
returns c = rw c.area_boundaries-b.ensures
