use Rattle.std.specs.Prelude.{None}
use Rattle.tables.specs.Tables.{checkpoints_in, parts_in, frames_in, before, part_next}
use Rattle.rules.specs.File.{decode_held}
use Rattle.rules.specs.Sections.{part_ok}
use Rattle.rules.specs.Tests.{walk}
use lib.Dec.{eqb}
use mathlib.Core.List.{[]}
use Rattle.tables.proofs.Walk.{Walk}
use Rattle.sections.proofs.part_records.walk_parts.Given as goal

abbrev pub invariant-loop-j : goal.invariant-loop-j
invariant-loop-j l = Walk 24 decode_held (part_ok l.area l.interval l.first (checkpoints_in l.n l.checkpoints) (frames_in l.f l.headers [])) part_next l.h l.parts (walk (part_ok l.area l.interval l.first (checkpoints_in l.n l.checkpoints) (frames_in l.f l.headers [])) part_next None (parts_in l.h l.parts)) l.j (before (eqb l.j 0) l.q)
