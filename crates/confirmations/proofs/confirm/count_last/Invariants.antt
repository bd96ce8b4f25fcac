use Rattle.confirmations.proofs.confirm.Kept.{Counted}
use Rattle.confirmations.proofs.confirm.count_last.Given as goal

abbrev pub invariant-loop-count : goal.invariant-loop-count
invariant-loop-count l = Counted l.c l.d l.t l.o l.own l.other l.count
