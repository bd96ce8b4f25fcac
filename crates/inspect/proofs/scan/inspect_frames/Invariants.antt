use lib.ListN.{drop}
use Prim.Native.Nat.{◌≤◌}
use Rattle.rules.specs.Load.{read_frame, read_frames}
use Rattle.tables.specs.Tables.{filled_to}
use Rattle.tables.specs.Files.{frame_next}
use Rattle.inspect.specs.Steps.{taken_of}
use Rattle.inspect.proofs.scan.Loop.{Reading}
use Rattle.inspect.proofs.scan.inspect_frames.Given as goal

abbrev pub invariant-loop : goal.invariant-loop
invariant-loop l = Reading (read_frame l.area l.h.budget) frame_next l.h.frames l.body (taken_of l.body (read_frames l.area l.h (drop l.initial.here.at l.body))) l.counter l.here.at (filled_to l.floor l.used)
    × (l.used ≤ l.h.budget)
