use Rattle.shelf.proofs.Laws.{Shifting}
use Rattle.shelf.proofs.dropped.Given as goal

abbrev pub invariant-loop-j : goal.invariant-loop-j
invariant-loop-j l = Shifting l.a l.i l.b l.j
