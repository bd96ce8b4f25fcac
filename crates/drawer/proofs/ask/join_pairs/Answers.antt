use mathlib.Core.Path.{refl, ◌∙◌}
use Rattle.std.proofs.lemmas.Result.{err_from_is_err_and}
use Rattle.rules.specs.Refusals.{number_in}
use Rattle.rules.proofs.Refusals.{number_ne0}
use Rattle.drawer.proofs.Pairing.{own_stops, own_on, pairs_stop, pairs_on, pairs_end}
use Rattle.drawer.proofs.ask.join_pairs.Goals as goal

pub join_each-requires : goal.join_each-requires
join_each-requires c = c.requires

pub returns-in_err-join_each : goal.returns-in_err-join_each
unfolding number_in
returns-in_err-join_each c =
    let p = err_from_is_err_and c.from_residual.result c.from_residual.ensures.1 in
    rw (p.1, p.2)
    (own_stops c.args.x c.args.checkpoints.now c.args.files.now c.args.asked
    c.in_err-join_each.ensures (number_ne0 _))

pub checkpoints_of-requires : goal.checkpoints_of-requires
checkpoints_of-requires c = (c.requires.1.each _ c.loop-i-test.true).0

pub join_each-requires-in-loop-i : goal.join_each-requires-in-loop-i
join_each-requires-in-loop-i c = (rw c.checkpoints_of.ensures (c.requires.1.each _ c.loop-i-test.true).1, c.requires.1)

pub returns-in_err-join_each-2 : goal.returns-in_err-join_each-2
unfolding number_in
returns-in_err-join_each-2 c =
    let p = err_from_is_err_and c.from_residual-in_err-join_each-2.result c.from_residual-in_err-join_each-2.ensures.1 in
    rw (p.1, p.2)
    (pairs_stop _ _ c.requires.1 c.loop-i-test.true
    (rw c.checkpoints_of.ensures at c.in_err-join_each-2.ensures) (number_ne0 _) ∙ c.loop-i.invariant
    ∙ own_on c.args.x c.args.checkpoints.now c.args.files.now c.args.asked
    c.in_ok-join_each.ensures refl)

pub loop-i-preserved : goal.loop-i-preserved
unfolding number_in
loop-i-preserved c =
    pairs_on _ _ c.requires.1 c.loop-i-test.true
    (rw c.checkpoints_of.ensures at c.in_ok-join_each-2.ensures) refl ∙ c.loop-i.invariant

pub returns : goal.returns
unfolding number_in
returns c =
    pairs_end _ _ c.requires.1 c.loop-i-test.false ∙ c.loop-i.invariant
    ∙ own_on c.args.x c.args.checkpoints.now c.args.files.now c.args.asked
    c.in_ok-join_each.ensures refl
