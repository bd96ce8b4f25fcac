use mathlib.Core.Path.{refl, ◌∙◌}
use Rattle.std.proofs.lemmas.Result.{err_from_is_err_and}
use Rattle.rules.specs.Refusals.{number_in}
use Rattle.rules.proofs.Refusals.{number_ne0}
use Rattle.drawer.proofs.Pairing.{list_stops, list_on, list_ends}
use Rattle.drawer.proofs.ask.join_each.Goals as goal

pub checkpoints_of-requires : goal.checkpoints_of-requires
checkpoints_of-requires c = (c.requires.1.each _ c.loop-k-test.true).0

pub check_join-requires : goal.check_join-requires
check_join-requires c = (c.requires.0, rw c.checkpoints_of.ensures (c.requires.1.each _ c.loop-k-test.true).1)

pub returns-in_err-check_join : goal.returns-in_err-check_join
unfolding number_in
returns-in_err-check_join c =
    let p = err_from_is_err_and c.from_residual.result c.from_residual.ensures.1 in
    rw (p.1, p.2)
    (list_stops _ _ c.requires.1 _ _ c.loop-k-test.true
    (rw c.checkpoints_of.ensures at c.in_err-check_join.ensures) (number_ne0 _) ∙ c.loop-k.invariant)

pub loop-k-preserved : goal.loop-k-preserved
unfolding number_in
loop-k-preserved c =
    list_on _ _ c.requires.1 _ _ c.loop-k-test.true
    (rw c.checkpoints_of.ensures at c.in_ok-check_join.ensures) refl ∙ c.loop-k.invariant

pub returns : goal.returns
unfolding number_in
returns c = list_ends _ _ c.requires.1 _ _ c.loop-k-test.false ∙ c.loop-k.invariant
