use native.Mathlib.Omega.{arith}
use Rattle.confirmations.proofs.confirm.Kept.{counted_start, own_few, other_few, counted_step}
use Rattle.confirmations.proofs.confirm.Kept.{counted_whole, counted_most}
use Rattle.confirmations.proofs.confirm.count_last.Goals as goal

pub loop-count-init : goal.loop-count-init
loop-count-init c = counted_start c.requires

pub overflow_add-own : goal.overflow_add-own
overflow_add-own c =
    let u = c.loop-count.invariant in
    omega (arith, own_few c.requires u, other_few c.requires u)

pub returns-then-own-other-eq0 : goal.returns-then-own-other-eq0
returns-then-own-other-eq0 c = counted_whole c.requires c.loop-count.invariant c.loop-count-test.true c.if-own-other-eq0.true

pub last_lsn-x-requires : goal.last_lsn-x-requires
last_lsn-x-requires c =
    let u = c.loop-count.invariant in
    omega (arith, own_few c.requires u)

pub last_lsn-y-requires : goal.last_lsn-y-requires
last_lsn-y-requires c =
    let u = c.loop-count.invariant in
    omega (arith, other_few c.requires u)

pub loop-count-preserved : goal.loop-count-preserved
loop-count-preserved c =
    let u = c.loop-count.invariant in
    counted_step c.requires u c.if-own-other-eq0.false c.last_lsn-x.ensures.0
    c.last_lsn-y.ensures.0 c.spent-own.ensures c.spent-other.ensures

pub returns : goal.returns
returns c = counted_most c.requires c.loop-count.invariant (omega arith)
