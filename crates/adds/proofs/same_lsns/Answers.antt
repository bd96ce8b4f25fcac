use mathlib.Core.Path.{◌∙◌}
use Rattle.adds.proofs.Fields.{lsns_same}
use Rattle.adds.proofs.same_lsns.Goals as goal

pub returns : goal.returns
returns c =
    c.same.ensures
    ∙ lsns_same _ _ _ _ (λ i. (c.type_inv.a i).fits) (λ i. (c.type_inv.b i).fits) c.requires.0 c.requires.1
