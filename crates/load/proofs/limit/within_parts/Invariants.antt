use lib.ListN.{length}
use Rattle.rules.specs.Load.{within}
use Rattle.tables.specs.Tables.{parts_in}
use Rattle.load.proofs.limit.Parts.{Staying}
use Rattle.load.proofs.limit.within_parts.Given as goal

abbrev pub invariant-loop-j : goal.invariant-loop-j
invariant-loop-j l = Staying l.section l.h l.n (length (within l.n (parts_in l.h l.section))) l.j
