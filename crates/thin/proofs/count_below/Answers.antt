use Prim.Native.Nat.{◌+◌, ◌-◌}
use mathlib.Core.Path.{◌≡◌}
use native.Mathlib.Omega.{arith}
use Rattle.thin.proofs.count_below.Goals as goal

pub returns : goal.returns
returns c =
    let z : c.args.g - 1 + 1 ≡ c.args.g = omega (arith, c.requires) in
    rw z at c.count_to.ensures
