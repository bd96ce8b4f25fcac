use Rattle.tables.specs.Tables.{parts_in}
use Rattle.rules_view.specs.View.{lengths_of, encode_held_length}
use Rattle.view.proofs.write.Laying.{Laid}
use Rattle.view.proofs.write.write_lengths.Given as goal

abbrev pub invariant-loop-j : goal.invariant-loop-j
invariant-loop-j l = Laid encode_held_length (lengths_of (parts_in l.j l.table)) l.initial.out l.out
