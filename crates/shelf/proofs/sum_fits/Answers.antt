use native.Mathlib.Omega.{arith}
use Rattle.rules_shelf.specs.Shelf.{sum}
use Rattle.shelf.specs.Steps.{list_of}
use Rattle.shelf.proofs.Laws.{sum_on, sum_stop, sum_end}
use Rattle.shelf.proofs.sum_fits.Goals as goal

pub loop-r-init : goal.loop-r-init
unfolding sum
loop-r-init c = omega arith

pub returns-then-left-r : goal.returns-then-left-r
returns-then-left-r c = sum_stop (list_of c.args.a) _ _ _ c.loop-r.invariant (omega arith) (omega arith)

pub loop-r-preserved : goal.loop-r-preserved
loop-r-preserved c = sum_on (list_of c.args.a) _ _ _ c.loop-r.invariant (omega arith) (omega arith)

pub returns : goal.returns
returns c = sum_end (list_of c.args.a) _ _ _ c.loop-r.invariant (omega arith)
