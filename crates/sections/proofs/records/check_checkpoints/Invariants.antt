use Rattle.tables.specs.Tables.{checkpoints_in, passed_at}
use Rattle.rules.specs.Sections.{checkpoint_ok, checkpoints_ok, passed}
use Rattle.rules.specs.File.{decode_checkpoint}
use Prim.Native.Nat.{◌+◌}
use Rattle.tables.proofs.Walk.{Walk}
use Rattle.sections.proofs.records.check_checkpoints.Given as goal

abbrev pub invariant-loop-j : goal.invariant-loop-j
invariant-loop-j l = Walk 24 decode_checkpoint (checkpoint_ok l.interval) passed l.n l.section (checkpoints_ok l.interval l.first (checkpoints_in l.n l.section)) l.j (passed_at (l.first + l.j) l.b)
