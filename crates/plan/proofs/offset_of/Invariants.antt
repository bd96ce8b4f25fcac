use Rattle.tables.proofs.Frames.{weight}
use Rattle.tables.specs.Tables.{headers_in}
use lib.ListN.{take}
use Prim.Native.Nat.{◌*◌, ◌≤◌}
use mathlib.Core.Path.{◌≡◌}
use Rattle.plan.proofs.offset_of.Given as goal

abbrev pub invariant-loop-i : goal.invariant-loop-i
invariant-loop-i l = (l.sum ≡ weight (take l.i (headers_in l.f l.frames))) × (l.sum ≤ l.i * 4294967295)
