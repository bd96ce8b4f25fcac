-- The boundaries of an area fit 32 bits. Assumes nothing.
use Prim.Native.Nat.{ℕ, zero, suc, ◌-◌, ◌≤◌}
use mathlib.Core.Path.{◌≡◌}
use mathlib.Core.Bool.{true}
use native.Mathlib.Omega.{arith}
use Rattle.sections.proofs.Questions.{few, ordered, none_by_zero}
use Rattle.rules.specs.declared.Area.{Area}
use Rattle.rules.specs.Values.{boundaries}
use Rattle.rules.specs.Questions.{area_ok}

pub boundaries_small : (a : Area) (k : ℕ) → area_ok a ≡ true → boundaries a k ≤ 4294967295
unfolding boundaries
boundaries_small a zero h = rw (none_by_zero a) (omega arith)
boundaries_small a (suc k) h =
    let o = ordered a h in let f = few (a.end - a.start) (suc k) (omega arith) in omega arith
