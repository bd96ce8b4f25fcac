use Rattle.std.proofs.Common.{◌-◌}
use Rattle.hint.proofs.nearest.Confirmed.{Search}
use Rattle.hint.proofs.nearest.confirmed_at.Given as goal

abbrev pub invariant-loop-lo : goal.invariant-loop-lo
invariant-loop-lo l = Search l.n l.t l.lsn l.lo l.hi

abbrev pub decreases-loop-lo : goal.decreases-loop-lo
decreases-loop-lo l = l.hi - l.lo
