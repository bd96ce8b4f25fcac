use Rattle.tables.specs.Index.{tables}
use Rattle.rules_drawer.specs.Drawer.{lengths_in}
use Rattle.drawer.proofs.Asking.{Asking}
use Rattle.drawer.proofs.ask.ask_files.Given as goal

abbrev pub invariant-loop-i : goal.invariant-loop-i
invariant-loop-i l = Asking l.area (lengths_in l.lengths) l.files l.limit (tables l.checkpoints l.frames l.store l.parts l.malformed l.hints l.confirmed) l.asked l.from l.i
