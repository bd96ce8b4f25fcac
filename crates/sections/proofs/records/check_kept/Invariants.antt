use mathlib.Core.Bool.{◌&&◌}
use Rattle.rules.specs.Sections.{hints_ok, marks_ok}
use Rattle.tables.specs.Tables.{kept_in}
use Rattle.sections.proofs.records.Marks.{Asking}
use Rattle.sections.proofs.records.check_kept.Given as goal

abbrev pub invariant-loop-j : goal.invariant-loop-j
invariant-loop-j l = Asking l.area.end l.most l.n l.hints (hints_ok l.area (kept_in l.n l.hints) && marks_ok l.most (kept_in l.n l.hints)) l.floor l.kept l.j
