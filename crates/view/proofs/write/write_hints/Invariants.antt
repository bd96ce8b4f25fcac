use Rattle.tables.specs.Tables.{kept_in}
use Rattle.rules.specs.File.{encode_hint}
use Rattle.view.proofs.write.Laying.{Laid}
use Rattle.view.proofs.write.write_hints.Given as goal

abbrev pub invariant-loop-j : goal.invariant-loop-j
invariant-loop-j l = Laid encode_hint (kept_in l.j l.table) l.initial.out l.out
