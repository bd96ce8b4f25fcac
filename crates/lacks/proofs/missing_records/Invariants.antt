use Rattle.lacks.proofs.Passing.{Counting}
use Rattle.lacks.specs.Sections.{item_key, stands_for, items_in}
use Rattle.lacks.proofs.missing_records.Given as goal

abbrev pub invariant-loop-j : goal.invariant-loop-j
invariant-loop-j l = Counting (item_key l.s) (stands_for l.s) (items_in l.s l.n l.own) (items_in l.s l.m l.other) l.n l.m l.i l.j l.count
