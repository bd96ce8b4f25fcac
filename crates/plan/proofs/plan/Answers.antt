use Rattle.plan.proofs.Steps.{ready, plan_yes}
use Rattle.index.proofs.Questions.{passes}
use Rattle.rules.specs.Refusals.{answer_in, number_in}
use mathlib.Core.Path.{sym, refl}
use Rattle.plan.proofs.plan.Goals as goal

pub plan_in-requires : goal.plan_in-requires
unfolding number_in
plan_in-requires c = ready (passes _ _ (sym c.in_ok-check.ensures))

pub returns : goal.returns
unfolding answer_in number_in
returns c = plan_yes _ _ _ c.in_ok-check.ensures refl c.plan_in.ensures
