use native.Mathlib.Omega.{arith}
use mathlib.Core.Path.{ap, ◌∙◌}
use Rattle.rules_coverage.specs.Coverage.{totals}
use Rattle.sheet.proofs.Sums.{min_rows, small_by}
use Rattle.sheet.proofs.totals.totals.Goals as goal

pub returns : goal.returns
returns c = (
  rw c.min.ensures at c.sum.ensures.0 ∙ ap totals (min_rows c.args.table.now c.args.n),
  small_by c.min.result 1000 c.sum.result (omega arith) c.sum.ensures.1,
)
