use native.Mathlib.Omega.{arith}
use mathlib.Core.Path.{sym, ◌∙◌}
use Rattle.rules.specs.Refusals.{answer_in, refusal_number}
use Rattle.disc_save.specs.Steps.{length_of_two}
use Rattle.disc_save.proofs.length.Lengths.{two_fits}
use Rattle.disc_save.proofs.length.two_length.Goals as goal

pub returns-then-not-two_fit : goal.returns-then-not-two_fit
unfolding length_of_two answer_in refusal_number
returns-then-not-two_fit c = rw (sym c.two_fit.ensures ∙ c.if-not-two_fit.true)

pub overflow_add-result : goal.overflow_add-result
overflow_add-result c =
    let small = two_fits _ _ _ _ c.two_fit.ensures c.if-not-two_fit.false in
    omega (arith, small.0, small.1)

pub overflow_add-result-2 : goal.overflow_add-result-2
overflow_add-result-2 c =
    let small = two_fits _ _ _ _ c.two_fit.ensures c.if-not-two_fit.false in
    omega (arith, small.0, small.1)

pub returns : goal.returns
unfolding length_of_two answer_in
returns c = rw (sym c.two_fit.ensures ∙ c.if-not-two_fit.false)
