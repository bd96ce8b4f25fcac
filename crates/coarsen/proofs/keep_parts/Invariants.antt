use mathlib.Core.Path.{◌≡◌}
use lib.ListN.{length}
use Rattle.rules_coarsen.specs.Coarse.{coarse_parts}
use Rattle.tables.specs.Tables.{frames_in, parts_in}
use Rattle.parts.specs.Parts.{part_tables, stored_in}
use Rattle.parts.proofs.Adding.{Adding}
use Rattle.coarsen.proofs.Keeping.{kept_multiples}
use Rattle.coarsen.proofs.keep_parts.Given as goal

abbrev pub invariant-loop-j : goal.invariant-loop-j
invariant-loop-j l = Adding l.budget l.f l.h (part_tables l.headers l.other l.theirs) (part_tables l.initial.frames l.initial.store l.initial.parts) (kept_multiples l.budget l.r (frames_in l.f l.headers l.other))
    (coarse_parts l.r l.budget (frames_in l.f l.headers l.other) (parts_in l.h l.theirs) (stored_in 0 0 (part_tables l.initial.frames l.initial.store l.initial.parts))) l.j l.at l.held
    (part_tables l.frames l.store l.parts)
    × (length l.frames ≡ length l.initial.frames) × (length l.store ≡ length l.initial.store) × (length l.parts ≡ length l.initial.parts)
