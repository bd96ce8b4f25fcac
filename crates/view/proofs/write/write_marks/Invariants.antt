use Rattle.tables.specs.Tables.{kept_in}
use Rattle.rules_view.specs.View.{encode_mark}
use Rattle.view.proofs.write.Laying.{Laid}
use Rattle.view.proofs.write.write_marks.Given as goal

abbrev pub invariant-loop-j : goal.invariant-loop-j
invariant-loop-j l = Laid encode_mark (kept_in l.j l.table) l.initial.out l.out
