use Rattle.tables.specs.Tables.{checkpoints_in}
use lib.ListN.{drop}
use Rattle.rules.specs.Tests.{agrees}
use Rattle.rules.specs.Record.{same_counts}
use Rattle.rules.specs.File.{decode_checkpoint}
use Rattle.absorb.proofs.tests.Common.{Compared}
use Rattle.absorb.proofs.tests.same_counts.Given as goal

abbrev pub invariant-loop-i : goal.invariant-loop-i
invariant-loop-i l = Compared 24 decode_checkpoint same_counts l.n l.first l.m l.t l.other
    (agrees same_counts (drop l.first (checkpoints_in l.n l.t)) (checkpoints_in l.m l.other)) l.i
