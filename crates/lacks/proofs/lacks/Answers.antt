use mathlib.Core.Path.{refl}
use Rattle.rules.specs.Refusals.{answer_in, number_in}
use Rattle.std.proofs.lemmas.Result.{err_from_is_err_and}
use Rattle.rules.proofs.Refusals.{number_ne0}
use Rattle.lacks.proofs.Call.{lacks_refused, lacks_done}
use Rattle.merge.proofs.questions.Refusal.{joins}
use Rattle.lacks.proofs.lacks.Goals as goal

pub counts-requires : goal.counts-requires
unfolding number_in
counts-requires c = joins _ _ _ _ c.in_ok-check_merge.ensures refl

pub returns : goal.returns
unfolding answer_in number_in
returns c =
    lacks_done _ _ _ _ c.in_ok-check_merge.ensures refl c.counts.ensures c.lacks_by.ensures

pub returns-in_err-check_merge : goal.returns-in_err-check_merge
unfolding answer_in number_in
returns-in_err-check_merge c =
    let p = err_from_is_err_and c.from_residual.result c.from_residual.ensures.1 in
    rw (p.1, p.2) (lacks_refused _ _ _ _ c.in_err-check_merge.ensures (number_ne0 _))
