use lib.Dec.{eqb}
use lib.ListN.{drop}
use Rattle.rules.specs.Load.{read_part, read_parts}
use Rattle.tables.specs.Tables.{checkpoints_in, before, part_next}
use Rattle.tables.specs.Files.{frames_read}
use Rattle.inspect.specs.Steps.{taken_of, LastAt}
use Rattle.inspect.proofs.scan.Loop.{Reading}
use Rattle.inspect.proofs.scan.inspect_parts.Given as goal

abbrev pub invariant-loop-j : goal.invariant-loop-j
invariant-loop-j l = Reading (read_part l.area l.h.interval (checkpoints_in l.h.checkpoints l.checkpoints) (frames_read l.h.frames l.frames)) part_next l.h.parts l.body
    (taken_of l.body (read_parts l.area l.h (checkpoints_in l.h.checkpoints l.checkpoints) (frames_read l.h.frames l.frames) (drop l.initial.here.at l.body))) l.j l.here.at
    (before (eqb l.j 0) l.last.part)
    × LastAt l.frames (eqb l.j 0) l.last
