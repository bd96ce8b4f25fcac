use mathlib.Core.Path.{sym}
use native.Mathlib.Omega.{arith}
use Rattle.thin.proofs.Counting.{below_zero}
use Rattle.thin.proofs.Steps.{high_start, found_cut, last_cut}
use Rattle.thin.proofs.cutoff_near.Goals as goal

pub loop-low-init : goal.loop-low-init
loop-low-init c = (
  omega arith,
  omega arith,
  omega arith,
  sym (below_zero _ _),
  high_start _ _ _ (λ i. (c.type_inv.t i).fits) c.requires.1,
)

pub returns-then-m-excess : goal.returns-then-m-excess
returns-then-m-excess c = found_cut _ c.count_below-m.ensures c.if-m-excess.true

pub returns : goal.returns
returns c =
    let inv = c.loop-low.invariant in
    last_cut _ inv.3 inv.2 inv.4 c.loop-low-test.false (omega arith) (omega arith)
