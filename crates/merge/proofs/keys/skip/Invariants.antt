use Rattle.merge.proofs.keys.Laws.{Skipping}
use Rattle.merge.specs.Keys.{keys_in}
use Rattle.merge.proofs.keys.skip.Given as goal

abbrev pub invariant-loop-k : goal.invariant-loop-k
invariant-loop-k l = Skipping l.low (keys_in l.w l.n l.t) l.n l.i l.k
