use Rattle.plan.proofs.search.Search.{Search}
use Prim.Native.Nat.{◌-◌}
use Rattle.plan.proofs.search.not_above.Given as goal

abbrev pub invariant-loop-lo : goal.invariant-loop-lo
invariant-loop-lo l = Search l.n l.checkpoints l.first l.lo l.hi

abbrev pub decreases-loop-lo : goal.decreases-loop-lo
decreases-loop-lo l = l.hi - l.lo
