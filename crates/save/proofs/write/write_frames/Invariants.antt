use Rattle.save.proofs.write.Frames.{Framing}
use Rattle.save.proofs.write.write_frames.Given as goal

abbrev pub invariant-loop-k : goal.invariant-loop-k
invariant-loop-k l = Framing l.f l.headers l.store l.initial.out l.sum l.k l.at l.from l.x l.out
