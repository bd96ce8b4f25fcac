use Prim.Native.Nat.{◌≤◌, ◌<◌, ◌-◌}
use mathlib.Core.Path.{◌≡◌}
use Rattle.tables.specs.Tables.{kept_in}
use Rattle.thin.specs.Steps.{lower}
use Rattle.thin.proofs.cutoff_near.Given as goal

abbrev pub invariant-loop-low : goal.invariant-loop-low
invariant-loop-low l = (l.low < l.high) × (l.high ≤ 4294967297) × (l.less ≤ l.excess) × (l.less ≡ lower (kept_in l.n l.t) l.low)
    × (l.excess ≤ lower (kept_in l.n l.t) l.high)

abbrev pub decreases-loop-low : goal.decreases-loop-low
decreases-loop-low l = l.high - l.low
