use mathlib.Core.Path.{◌∙◌}
use Rattle.view.proofs.Views.{listener_size, workshop_size_lemma}
use Rattle.view.proofs.size.Goals as goal

pub returns-then-role-eq1 : goal.returns-then-role-eq1
returns-then-role-eq1 c t = listener_size _ _ t c.if-role-eq1.true

pub returns-else-role-eq1 : goal.returns-else-role-eq1
returns-else-role-eq1 c t = c.workshop_size.ensures ∙ workshop_size_lemma _ _ t c.if-role-eq1.false
