use mathlib.Core.Path.{refl}
use Rattle.rules.specs.Refusals.{number_in}
use Rattle.absorb.proofs.refusal.Refusal.{readable, then_stopped, then_refuses}
use Rattle.absorb.proofs.refusal.check_absorb.Goals as goal

pub returns-then-is_stopped : goal.returns-then-is_stopped
unfolding number_in
returns-then-is_stopped c = then_stopped _ _ _ _ _ _ c.check-own.ensures c.check-theirs.ensures c.in_ok-lower.ensures refl c.is_stopped.ensures c.if-is_stopped.true

pub check_later-requires : goal.check_later-requires
unfolding number_in
check_later-requires c = readable _ _ _ _ c.check-own.ensures c.check-theirs.ensures c.in_ok-lower.ensures refl

pub returns : goal.returns
unfolding number_in
returns c =
    then_refuses _ _ _ _ _ _ c.check-own.ensures c.check-theirs.ensures c.in_ok-lower.ensures refl c.is_stopped.ensures
    c.if-is_stopped.false c.check_later.ensures
