use Rattle.rules_coverage.specs.Coverage.{totals}
use Rattle.sheet.specs.Rows.{rows_in}
use Rattle.sheet.specs.Steps.{Small}
use mathlib.Core.Path.{◌≡◌}
use Rattle.sheet.proofs.totals.sum.Given as goal

abbrev pub invariant-loop-i : goal.invariant-loop-i
invariant-loop-i l = (l.t ≡ totals (rows_in l.i l.table)) × (Small l.i l.t)
