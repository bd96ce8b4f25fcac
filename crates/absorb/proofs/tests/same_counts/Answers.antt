use mathlib.Core.Path.{sym, ◌∙◌}
use native.Mathlib.Omega.{arith}
use Rattle.absorb.proofs.tests.Common.{compare_start, compare_on, compare_stop, compare_end}
use Rattle.absorb.proofs.tests.same_counts.Goals as goal

pub loop-i-init : goal.loop-i-init
loop-i-init c = compare_start c.requires.2

pub returns-then-not-same_pair : goal.returns-then-not-same_pair
returns-then-not-same_pair c =
    compare_stop c.loop-i.invariant (omega arith) (omega arith) c.read_checkpoint-c.ensures
    c.read_checkpoint-d.ensures (sym c.same_pair.ensures ∙ c.if-not-same_pair.true)

pub loop-i-preserved : goal.loop-i-preserved
loop-i-preserved c =
    compare_on c.loop-i.invariant (omega arith) (omega arith) c.read_checkpoint-c.ensures
    c.read_checkpoint-d.ensures (sym c.same_pair.ensures ∙ c.if-not-same_pair.false)

pub returns : goal.returns
returns c = compare_end c.loop-i.invariant (omega arith)
