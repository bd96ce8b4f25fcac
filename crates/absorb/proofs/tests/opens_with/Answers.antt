use mathlib.Core.Path.{◌∙◌}
use Rattle.absorb.proofs.tests.Common.{opens_no, opens_yes}
use Rattle.absorb.proofs.tests.opens_with.Goals as goal

pub returns-else-m-k : goal.returns-else-m-k
returns-else-m-k c = opens_no _ _ _ _ c.if-m-k.false

pub returns-then-m-k : goal.returns-then-m-k
returns-then-m-k c =
    c.same.ensures
    ∙ opens_yes _ _ _ _ c.if-m-k.true (λ i. (c.type_inv.given i).fits) (λ i. (c.type_inv.held i).fits) c.requires.0 c.requires.1
