use mathlib.Core.Path.{◌≡◌}
use lib.ListN.{length}
use Rattle.rules.specs.PartRule.{add_parts}
use Rattle.tables.specs.Tables.{frames_in, parts_in}
use Rattle.parts.specs.Parts.{part_tables, stored_in}
use Rattle.parts.proofs.Adding.{later_parts, Adding}
use Rattle.parts.proofs.add_parts.Given as goal

abbrev pub invariant-loop-j : goal.invariant-loop-j
invariant-loop-j l = Adding l.budget l.f l.h (part_tables l.headers l.other l.theirs) (part_tables l.initial.frames l.initial.store l.initial.parts)
    (later_parts l.budget l.n (frames_in l.f l.headers l.other))
    (add_parts l.budget (frames_in l.f l.headers l.other) l.n (parts_in l.h l.theirs)
    (stored_in l.initial.held.frames l.initial.held.parts (part_tables l.initial.frames l.initial.store l.initial.parts))) l.j l.at l.held
    (part_tables l.frames l.store l.parts)
    × (length l.frames ≡ length l.initial.frames) × (length l.store ≡ length l.initial.store) × (length l.parts ≡ length l.initial.parts)
