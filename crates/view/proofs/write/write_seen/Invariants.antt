use Rattle.tables.specs.Tables.{checkpoints_in}
use Rattle.rules_view.specs.View.{seen_from, encode_seen}
use Rattle.view.proofs.write.Laying.{Laid}
use Rattle.view.proofs.write.write_seen.Given as goal

abbrev pub invariant-loop-j : goal.invariant-loop-j
invariant-loop-j l = Laid encode_seen (seen_from l.x.area l.x.interval 0 (checkpoints_in l.j l.table)) l.initial.out l.out
