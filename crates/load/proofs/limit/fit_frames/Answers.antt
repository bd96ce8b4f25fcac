use native.Mathlib.Omega.{arith}
use Rattle.load.proofs.limit.Frames.{fit_room, fit_on, fit_stop, fit_end}
use Rattle.load.proofs.limit.fit_frames.Goals as goal

pub overflow_add-here : goal.overflow_add-here
overflow_add-here c = omega (arith, fit_room c.loop-i.invariant c.loop-i-test.true)

pub read_u32-len-requires : goal.read_u32-len-requires
read_u32-len-requires c = omega (arith, fit_room c.loop-i.invariant c.loop-i-test.true)

pub next_frame-here-requires : goal.next_frame-here-requires
next_frame-here-requires c = omega (arith, fit_room c.loop-i.invariant c.loop-i-test.true)

pub returns-then-budget-used : goal.returns-then-budget-used
returns-then-budget-used c = fit_stop c.loop-i.invariant c.loop-i-test.true c.read_u32-len.ensures c.if-budget-used.true

pub loop-i-preserved : goal.loop-i-preserved
loop-i-preserved c =
    rw c.next_frame-here.ensures
    (fit_on c.loop-i.invariant c.loop-i-test.true c.read_u32-len.ensures c.if-budget-used.false)

pub returns : goal.returns
returns c = fit_end c.loop-i.invariant c.loop-i-test.false
