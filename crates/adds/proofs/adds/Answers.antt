use mathlib.Core.Path.{refl}
use Rattle.rules.specs.Refusals.{answer_in, number_in}
use Rattle.adds.proofs.Answers.{adds_refused, adds_done}
use Rattle.merge.proofs.questions.Refusal.{joins}
use Rattle.std.proofs.lemmas.Result.{err_from_is_err_and}
use Rattle.rules.proofs.Refusals.{number_ne0}
use Rattle.adds.proofs.adds.Goals as goal

pub brought-requires : goal.brought-requires
unfolding number_in
brought-requires c = joins _ _ _ _ c.in_ok-check_merge.ensures refl

pub returns : goal.returns
unfolding answer_in number_in
returns c = adds_done _ _ _ _ c.in_ok-check_merge.ensures refl c.brought.ensures

pub returns-in_err-check_merge : goal.returns-in_err-check_merge
unfolding answer_in number_in
returns-in_err-check_merge c =
    let p = err_from_is_err_and c.from_residual.result c.from_residual.ensures.1 in
    rw (p.1, p.2) (adds_refused _ _ _ _ c.in_err-check_merge.ensures (number_ne0 _))
