use mathlib.Core.Path.{◌∙◌}
use Rattle.merge.proofs.common.Common.{common_is}
use Rattle.laws.proofs.Layouts.{checkpoint_layout}
use Rattle.rules.specs.Values.{same_checkpoint}
use Rattle.rules.proofs.Same.{same_checkpoint_eq, same_checkpoint_self}
use Rattle.merge.proofs.common.same_checkpoints.Goals as goal

pub returns : goal.returns
returns c =
    c.same.ensures
    ∙ common_is checkpoint_layout same_checkpoint same_checkpoint_eq same_checkpoint_self _ _ _ _ _
    (λ i. (c.type_inv.a i).fits) (λ i. (c.type_inv.b i).fits) c.requires.0 c.requires.1 c.min.ensures
