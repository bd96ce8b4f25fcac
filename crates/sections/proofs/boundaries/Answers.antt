use Rattle.sections.proofs.Questions.{few}
use Rattle.rules.specs.Values.{boundaries}
use mathlib.Core.Path.{refl}
use Rattle.sections.proofs.boundaries.Goals as goal

pub returns : goal.returns
unfolding boundaries
returns c = (refl, few _ _ c.requires.2)
