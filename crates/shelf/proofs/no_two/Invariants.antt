use Rattle.shelf.proofs.Laws.{Pairing}
use Rattle.shelf.proofs.no_two.Given as goal

abbrev pub invariant-loop-i : goal.invariant-loop-i
invariant-loop-i l = Pairing l.a l.i
