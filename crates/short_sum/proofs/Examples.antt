-- The definitions give what the examples should be. Assumes nothing.
use mathlib.Core.Path.{refl}
use Rattle.fnv.specs.Fnv.{fnv_from}
use Rattle.short_sum.specs.ShortSum.{question49, fold}
use Rattle.short_sum.specs.Examples.{Hold, folds}

folds_hold : Hold folds
unfolding fnv_from question49 fold
folds_hold = refl
