use mathlib.Core.Path.{◌≡◌}
use Prim.Native.Nat.{◌+◌}
use lib.ListN.{take}
use Rattle.rules_shelf.specs.Shelf.{sum}
use Rattle.shelf.specs.Steps.{list_of}
use Rattle.shelf.proofs.sum_fits.Given as goal

abbrev pub invariant-loop-r : goal.invariant-loop-r
invariant-loop-r l = sum (take l.r-index (list_of l.fn.a)) + l.left ≡ l.fn.room
