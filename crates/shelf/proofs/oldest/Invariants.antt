use mathlib.Core.Path.{◌≡◌}
use Prim.Native.Nat.{◌≤◌}
use Rattle.rules_shelf.specs.Shelf.{oldest_of}
use Rattle.shelf.proofs.oldest.Given as goal

abbrev pub invariant-loop-i : goal.invariant-loop-i
invariant-loop-i l = (l.best ≡ oldest_of l.a.all l.i) × (l.best ≤ l.i)
