use Rattle.plan.proofs.Held.{Sought}
use Rattle.plan.proofs.assembly_of.Given as goal

abbrev pub invariant-loop-i : goal.invariant-loop-i
invariant-loop-i l = Sought l.h l.parts l.j l.i
