use Rattle.std.proofs.Common.{arith, rules}
use Rattle.hint.proofs.density.Larger.{local_run, local_before}
use Rattle.hint.proofs.density.denser_local.Goals as goal

pub returns-then-saturating_sub-ge3 : goal.returns-then-saturating_sub-ge3
returns-then-saturating_sub-ge3 c =
    local_run _ _ _ _ _ (search rules) c.read_hint-h.ensures c.saturating_sub.ensures (omega arith)
    c.between.ensures c.denser.ensures

pub returns : goal.returns
returns c =
    local_before _ _ _ _ _ (search rules) c.read_hint-h.ensures c.saturating_sub.ensures (omega arith)
    c.denser_before.ensures
