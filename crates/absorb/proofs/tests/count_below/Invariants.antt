use Rattle.absorb.proofs.tests.Common.{Counted}
use Rattle.absorb.proofs.tests.count_below.Given as goal

abbrev pub invariant-loop-j : goal.invariant-loop-j
invariant-loop-j l = Counted l.front l.k l.given l.count l.j
