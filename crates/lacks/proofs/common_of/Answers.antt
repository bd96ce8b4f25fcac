use Rattle.lacks.proofs.Parts.{alike_all, alike_differ, alike_on}
use native.Mathlib.Omega.{arith}
use Rattle.lacks.proofs.common_of.Goals as goal

pub loop-i-init : goal.loop-i-init
loop-i-init c = record { own = omega arith; other = omega arith; rest = omega arith }

pub returns-then-a-i : goal.returns-then-a-i
returns-then-a-i c = alike_differ c.loop-i.invariant (omega arith) (omega arith) c.if-a-i.true

pub loop-i-preserved : goal.loop-i-preserved
loop-i-preserved c = alike_on c.loop-i.invariant (omega arith) (omega arith) c.if-a-i.false

pub returns : goal.returns
returns c = rw c.min-n.ensures (alike_all c.loop-i.invariant (rw c.min-n.ensures at c.loop-i-test.false))
