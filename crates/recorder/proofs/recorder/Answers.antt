use mathlib.Core.Path.{refl}
use Rattle.rules.specs.Refusals.{answer_in, number_in}
use Rattle.recorder.proofs.Calls.{started_yes}
use Rattle.recorder.proofs.recorder.Goals as goal

pub returns : goal.returns
unfolding answer_in number_in
returns c = started_yes _ _ _ c.in_ok-check.ensures refl c.empty.ensures
