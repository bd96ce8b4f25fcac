use mathlib.Core.Path.{sym}
use Rattle.rules.specs.Refusals.{number_in}
use Rattle.index.proofs.Questions.{roomy}
use Rattle.index.proofs.check.Goals as goal

pub question4-requires : goal.question4-requires
unfolding number_in
question4-requires c = roomy _ _ (sym c.in_ok-check_room.ensures)
