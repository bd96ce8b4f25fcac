use mathlib.Core.Path.{refl}
use Rattle.std.proofs.lemmas.Result.{err_from_is_err_and}
use Rattle.rules.specs.Refusals.{answer_in, number_in}
use Rattle.rules.proofs.Refusals.{number_ne0}
use Rattle.tables.specs.Loans.{tables_in}
use Rattle.view.proofs.Views.{length_refused, length_told}
use Rattle.view.proofs.view_length.Goals as goal

pub returns-in_err-check_view : goal.returns-in_err-check_view
unfolding answer_in number_in
returns-in_err-check_view c =
    let p = err_from_is_err_and c.from_residual.result c.from_residual.ensures.1 in
    rw (p.1, p.2) (length_refused _ _ (tables_in c.args.t.now) c.in_err-check_view.ensures (number_ne0 _))

pub returns : goal.returns
unfolding answer_in number_in
returns c =
    let t = tables_in c.args.t.now in
    length_told _ _ t c.in_ok-check_view.ensures refl (c.size.ensures t)
