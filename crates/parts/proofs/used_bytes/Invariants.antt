use Prim.Native.Nat.{◌+◌, ◌*◌, ◌≤◌}
use mathlib.Core.Path.{◌≡◌}
use lib.ListN.{drop}
use Rattle.tables.specs.Tables.{headers_in}
use Rattle.tables.proofs.Frames.{weight}
use Rattle.parts.proofs.used_bytes.Given as goal

abbrev pub invariant-loop-i : goal.invariant-loop-i
invariant-loop-i l = (l.sum ≤ l.i * 4294967295) × (l.sum + weight (drop l.i (headers_in l.f l.frames)) ≡ weight (headers_in l.f l.frames))
