use Rattle.tables.proofs.kinds.Each.{still, same, kind_ok, itself}
use Rattle.tables.specs.Index.{kinds_ok}
use Rattle.tables.proofs.Walk.{Walk}
use Rattle.tables.proofs.kinds.check_kinds.Given as goal

abbrev pub invariant-loop-j : goal.invariant-loop-j
invariant-loop-j l = Walk 24 itself (still kind_ok) same l.h l.parts (kinds_ok l.h l.parts) l.j 0
