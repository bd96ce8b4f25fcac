use Prim.Native.Nat.{◌+◌}
use Rattle.tables.specs.Tables.{kept_in}
use Rattle.thin.proofs.Steps.{Counted}
use Rattle.thin.proofs.count_to.Given as goal

abbrev pub invariant-loop-i : goal.invariant-loop-i
invariant-loop-i l = Counted (kept_in l.n l.t) (l.g + 1) l.found l.before l.i
