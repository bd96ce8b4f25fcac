use Rattle.lacks.proofs.Parts.{PartsCounting}
use Rattle.lacks.proofs.missing_parts.Given as goal

abbrev pub invariant-loop-j : goal.invariant-loop-j
invariant-loop-j l = PartsCounting l.n l.parts l.f l.frames l.store l.h l.theirs l.m l.other_frames l.other_store l.i l.j l.count l.s
