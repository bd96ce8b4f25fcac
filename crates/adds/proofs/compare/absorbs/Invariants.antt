use Rattle.adds.proofs.compare.Passing.{Absorbing}
use Rattle.adds.specs.Confirmed.{absorbed}
use Rattle.tables.specs.Tables.{confirmations_in}
use lib.ListN.{drop}
use Prim.Native.Nat.{◌-◌}
use Rattle.adds.proofs.compare.absorbs.Given as goal

abbrev pub invariant-loop-j : goal.invariant-loop-j
invariant-loop-j l = Absorbing (confirmations_in l.n l.own) (confirmations_in l.m l.other)
    (absorbed (confirmations_in l.n l.own) (drop l.first (confirmations_in l.m l.other))) l.n l.m l.i l.j

abbrev pub decreases-loop-j : goal.decreases-loop-j
decreases-loop-j l = l.n - l.i
