use mathlib.Core.Path.{sym, refl}
use Rattle.rules.specs.Refusals.{number_in}
use Rattle.merge.proofs.questions.Refusal.{then_refuses, common_room}
use Rattle.merge.proofs.questions.check_merge.Goals as goal

pub check_join-requires : goal.check_join-requires
unfolding number_in
check_join-requires c = common_room _ _ _ _ c.check-own.ensures c.check-theirs.ensures c.in_ok-lower.ensures refl

pub returns : goal.returns
unfolding number_in
returns c = then_refuses _ _ _ _ c.check-own.ensures c.check-theirs.ensures c.in_ok-lower.ensures refl c.check_join.ensures
