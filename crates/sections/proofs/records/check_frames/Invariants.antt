use Rattle.tables.proofs.Frames.{weight}
use Rattle.tables.specs.Tables.{decode_header, headers_in, frames_in, header_ok, header_next, filled_to}
use Rattle.rules.specs.Sections.{frames_ok}
use lib.ListN.{drop}
use Prim.Native.Nat.{◌+◌, ◌≤◌}
use mathlib.Core.List.{[]}
use mathlib.Core.Path.{◌≡◌}
use Rattle.tables.proofs.Walk.{Walk}
use Rattle.sections.proofs.records.check_frames.Given as goal

abbrev pub invariant-loop-j : goal.invariant-loop-j
invariant-loop-j l = Walk 8 decode_header (header_ok l.area l.budget) header_next l.f l.headers (frames_ok l.area l.budget (frames_in l.f l.headers [])) l.j (filled_to l.floor l.used) × (l.used ≤ l.budget) × (l.used + weight (drop l.j (headers_in l.f l.headers)) ≡ weight (headers_in l.f l.headers))
