use Rattle.std.proofs.Common.{◌∙◌, arith, rules}
use Rattle.tables.proofs.Rest.{rest_start, rest_on, rest_stop, rest_end}
use Rattle.hint.proofs.Later.{later_on, later_near, later_far, later_none}
use Rattle.hint.proofs.later_end.Goals as goal

pub loop-j-init : goal.loop-j-init
loop-j-init c = rest_start _ _ _ _ _ _ (search rules)

pub returns-then-s-end-le-HINT_REACH : goal.returns-then-s-end-le-HINT_REACH
returns-then-s-end-le-HINT_REACH c =
    rest_stop c.loop-j.invariant c.loop-j-test.true c.read_hint-s.ensures
    (λ hs. later_near _ _ hs (omega arith) (omega arith))

pub returns-else-s-end-le-HINT_REACH : goal.returns-else-s-end-le-HINT_REACH
returns-else-s-end-le-HINT_REACH c =
    rest_stop c.loop-j.invariant c.loop-j-test.true c.read_hint-s.ensures
    (λ hs. later_far _ _ hs (omega arith) (omega arith))

pub loop-j-preserved : goal.loop-j-preserved
loop-j-preserved c = rest_on c.loop-j.invariant _ c.loop-j-test.true c.read_hint-s.ensures (λ hs. later_on _ _ hs (omega arith))

pub returns : goal.returns
returns c = later_none _ ∙ rest_end c.loop-j.invariant c.loop-j-test.false
