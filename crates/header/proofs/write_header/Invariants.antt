use Rattle.header.proofs.Written.{Written}
use Rattle.header.proofs.write_header.Given as goal

abbrev pub invariant-loop-i : goal.invariant-loop-i
invariant-loop-i l = Written l.initial.out l.values l.out l.x l.i
