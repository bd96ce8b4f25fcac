-- The number of a boundary is a number of 32 bits. Assumes nothing.
use mathlib.Core.Path.{◌≡◌}
use mathlib.Core.Bool.{true}
use Prim.Native.Nat.{ℕ, ◌<◌}
use native.Mathlib.Omega.{arith}
use Rattle.rules.specs.declared.Area.{Area}
use Rattle.rules.specs.Questions.{area_ok, numbers_ok}
use Rattle.rules.specs.Values.{boundaries}
use Rattle.laws.proofs.Ranges.{boundaries_small}
use Rattle.laws.proofs.scans.Record.{interval_pos}
use Rattle.index.proofs.Questions.{range}

pub boundary_small : (a : Area) (k budget : ℕ) {j b : ℕ} → area_ok a ≡ true → numbers_ok k budget ≡ true → b ≡ boundaries a k → j < b → j < 4294967296
boundary_small a k budget p q i l =
    let s = boundaries_small a k (interval_pos k budget q) in
    let r = range a p in
    omega (arith, l, i, s, r.order, r.end)
