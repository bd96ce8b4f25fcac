use Rattle.adds.proofs.Seeking.{Seeking}
use Rattle.adds.specs.Steps.{some_stored}
use Rattle.parts.specs.Parts.{part_tables, stored_in}
use Rattle.tables.specs.Tables.{frames_in, parts_in}
use Rattle.adds.proofs.stores_some.Given as goal

abbrev pub invariant-loop-j : goal.invariant-loop-j
invariant-loop-j l = Seeking l.budget l.n l.f l.h (part_tables l.headers l.other l.theirs)
    (stored_in l.c.frames l.c.parts (part_tables l.frames l.store l.parts))
    (some_stored l.budget (frames_in l.f l.headers l.other) l.n (parts_in l.h l.theirs)
    (stored_in l.c.frames l.c.parts (part_tables l.frames l.store l.parts))) l.j l.at
