use Rattle.lacks.proofs.Parts.{Going}
use Rattle.lacks.proofs.source_to.Given as goal

abbrev pub invariant-loop-k : goal.invariant-loop-k
invariant-loop-k l = Going l.f l.frames l.g l.k l.offset
