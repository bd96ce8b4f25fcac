use Rattle.std.proofs.Common.{rules}
use Rattle.coverage.proofs.Tables.{no_rows}
use Rattle.coverage.proofs.sheets.rows.Goals as goal

pub loop-init : goal.loop-init
loop-init c = (search rules, no_rows _)
