-- The definitions give what the examples should be. Assumes nothing.
use mathlib.Core.Path.{refl}
use Rattle.rules.specs.examples.Starred.{Hold}
use Rattle.rules.proofs.Examples.{evaluated}
use Rattle.rules_large.specs.Bounds.{end_numbers, bounds}

pub bounds_hold : Hold bounds
unfolding evaluated end_numbers bounds
bounds_hold = refl
