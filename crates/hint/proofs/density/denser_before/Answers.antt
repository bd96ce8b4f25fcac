use Rattle.std.proofs.Common.{◌∙◌, arith, rules}
use Rattle.hint.proofs.density.Larger.{before_none, before_flat, before_some}
use Rattle.hint.proofs.density.denser_before.Goals as goal

pub returns-then-i-eq0 : goal.returns-then-i-eq0
returns-then-i-eq0 c = c.by_average.ensures ∙ before_none _ _ _ _ c.if-i-eq0.true

pub returns-then-h-b : goal.returns-then-h-b
returns-then-h-b c =
    c.by_average-then-h-b.ensures ∙ before_flat _ _ _ _ c.if-i-eq0.false (search rules) c.read_hint-b.ensures
    c.read_hint-h.ensures (omega arith)

pub returns : goal.returns
returns c =
    before_some _ _ _ _ c.if-i-eq0.false (search rules) c.read_hint-b.ensures c.read_hint-h.ensures (omega arith)
    c.between.ensures c.denser.ensures
