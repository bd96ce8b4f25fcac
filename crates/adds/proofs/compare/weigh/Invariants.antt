use Rattle.adds.proofs.compare.Passing.{Weighing}
use Rattle.tables.specs.Tables.{kept_in, unkept_in}
use Prim.Native.Nat.{◌+◌, ◌-◌}
use Rattle.adds.proofs.compare.weigh.Given as goal

abbrev pub invariant-loop-i : goal.invariant-loop-i
invariant-loop-i l = Weighing (kept_in l.n l.own) (unkept_in l.m l.other) l.n l.m l.s l.i l.j

abbrev pub decreases-loop-i : goal.decreases-loop-i
decreases-loop-i l = l.n + l.m - (l.i + l.j)
