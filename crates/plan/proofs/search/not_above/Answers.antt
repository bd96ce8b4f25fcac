use Rattle.plan.proofs.search.Search.{search_end}
use native.Mathlib.Omega.{arith}
use Rattle.plan.proofs.search.not_above.Goals as goal

pub returns : goal.returns
returns c =
    let inv = c.loop-lo.invariant in
    (search_end c.args.checkpoints.now inv c.loop-lo-test.false, omega (arith, inv.within, inv.ordered))
