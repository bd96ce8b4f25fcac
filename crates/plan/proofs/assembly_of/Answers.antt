use Rattle.plan.proofs.Held.{sought_found, sought_on, sought_none}
use Rattle.plan.proofs.assembly_of.Goals as goal

pub returns-then-p-j : goal.returns-then-p-j
returns-then-p-j c =
    λ store. sought_found c.loop-i.invariant c.loop-i-test.true c.read_held-p.ensures
    c.if-p-j.true _ (c.stored.ensures store)

pub loop-i-preserved : goal.loop-i-preserved
loop-i-preserved c =
    sought_on c.loop-i.invariant c.loop-i-test.true
    c.read_held-p.ensures c.if-p-j.false

pub returns : goal.returns
returns c = λ store. sought_none c.loop-i.invariant c.loop-i-test.false _
