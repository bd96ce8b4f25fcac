use Rattle.lacks.proofs.Parts.{Alike}
use Rattle.lacks.proofs.common_of.Given as goal

abbrev pub invariant-loop-i : goal.invariant-loop-i
invariant-loop-i l = Alike l.a l.b l.i
