use Rattle.std.proofs.Common.{◌∙◌, arith}
use Rattle.hint.proofs.density.Larger.{denser_new, denser_equal, denser_old}
use Rattle.hint.proofs.density.denser.Goals as goal

pub returns-then-a-b : goal.returns-then-a-b
returns-then-a-b c = denser_new _ _ c.product-a.ensures c.product-b.ensures (omega arith)

pub returns-then-a-b-2 : goal.returns-then-a-b-2
returns-then-a-b-2 c = denser_equal _ _ c.product-a.ensures c.product-b.ensures (omega arith)

pub returns : goal.returns
returns c = c.by_average.ensures ∙ denser_old _ _ c.product-a.ensures c.product-b.ensures (omega arith)
