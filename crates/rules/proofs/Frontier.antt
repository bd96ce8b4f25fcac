-- The frontier without an end state, as one sum. Assumes nothing.
use Rattle.std.specs.Prelude.{None}
use mathlib.Core.Path.{◌≡◌, refl}
use Prim.Native.Nat.{ℕ, zero, suc, ◌-◌}
use native.Mathlib.Nat.{zero-mul}
use native.Mathlib.Omega.{arith}
use Rattle.rules.specs.declared.Area.{Area}
use Rattle.rules.specs.Values.{lsn_of, frontier_of}

pub frontier_open : (a : Area) (k n : ℕ) → frontier_of a k n None ≡ lsn_of a k (n - 1)
unfolding frontier_of
frontier_open a k zero = omega (arith, zero-mul k)
frontier_open a k (suc j) = let e : suc j - 1 ≡ j = omega arith in rw e refl
