use Rattle.hint.proofs.density.Larger.{upper_is}
use Rattle.hint.proofs.density.upper_end.Goals as goal

pub returns : goal.returns
returns c =
    upper_is _ _ _ (rw (← c.saturating_sub.ensures, ← c.product.ensures))
    c.saturating_add.ensures c.saturating_add-sectors.ensures
    c.saturating_add-2.ensures
