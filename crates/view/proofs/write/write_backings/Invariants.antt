use Rattle.tables.specs.Tables.{checkpoints_in}
use Rattle.rules_view.specs.View.{backings_of, encode_backing}
use Rattle.view.proofs.write.Laying.{Laid}
use Rattle.view.proofs.write.write_backings.Given as goal

abbrev pub invariant-loop-j : goal.invariant-loop-j
invariant-loop-j l = Laid encode_backing (backings_of (checkpoints_in l.j l.table)) l.initial.out l.out
