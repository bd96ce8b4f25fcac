use Rattle.std.proofs.Common.{◌≤◌}
use Rattle.coverage.specs.Sheets.{Rows}
use Rattle.coverage.proofs.sheets.rows.Given as goal

abbrev pub invariant-loop : goal.invariant-loop
invariant-loop l = (l.s.count ≤ 1000) × Rows l.s.count l.table
