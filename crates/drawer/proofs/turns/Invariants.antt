use Rattle.tables.specs.Index.{tables}
use Rattle.drawer.proofs.Turning.{At}
use Rattle.drawer.proofs.turns.Given as goal

abbrev pub invariant-loop-i : goal.invariant-loop-i
invariant-loop-i l = At l.x.area l.initial.y (tables l.initial.checkpoints l.initial.frames l.initial.store l.initial.parts l.initial.malformed l.initial.hints l.initial.confirmed) l.asked l.files l.limit
    (tables l.initial.work_checkpoints l.initial.work_frames l.initial.work_store l.initial.work_parts l.initial.work_malformed l.initial.work_hints l.initial.work_confirmed) l.y
    (tables l.checkpoints l.frames l.store l.parts l.malformed l.hints l.confirmed)
    (tables l.work_checkpoints l.work_frames l.work_store l.work_parts l.work_malformed l.work_hints l.work_confirmed) l.i
