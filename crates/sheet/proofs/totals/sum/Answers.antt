use Rattle.sheet.specs.Steps.{added}
use Rattle.sheet.proofs.Sums.{no_rows, totals_rows}
use native.Mathlib.Omega.{arith}
use mathlib.Core.Path.{◌≡◌, sym, ap, ◌∙◌}
use borrow.Author.Rules.{rules}
use Rattle.sheet.proofs.totals.sum.Goals as goal

pub loop-i-init : goal.loop-i-init
loop-i-init c = (no_rows c.args.table.now, record { checkpoints = search rules; boundaries = search rules; held = search rules })

pub loop-i-preserved : goal.loop-i-preserved
loop-i-preserved c =
    let table = c.args.table.now in
    let i = c.loop-i.i in
    (c.add_row-t.ensures.0 ∙ ap (λ t. added t table i) c.loop-i.invariant.0 ∙ sym (totals_rows table i (omega arith)), c.add_row-t.ensures.1)

pub returns : goal.returns
returns c =
    let e : c.loop-i.i ≡ c.args.n = omega arith in
    rw (← e) (c.loop-i.invariant.0, c.loop-i.invariant.1)
