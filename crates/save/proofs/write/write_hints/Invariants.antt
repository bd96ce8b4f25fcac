use Rattle.save.proofs.write.Hints.{Hinting}
use Rattle.save.proofs.write.write_hints.Given as goal

abbrev pub invariant-loop-j : goal.invariant-loop-j
invariant-loop-j l = Hinting l.n l.table l.initial.out l.sum l.j l.x l.out
