use mathlib.Core.Path.{refl, sym, ◌∙◌}
use mathlib.Core.List.{[]}
use native.Mathlib.Omega.{arith}
use borrow.Author.Tests.{leb-true, leb-false}
use lib.ListN.{length}
use Rattle.std.proofs.lemmas.Result.{err_from_is_err_and}
use Rattle.rules.specs.Refusals.{answer_in, number_in, refusal_number}
use Rattle.rules.proofs.Refusals.{number_ne0}
use Rattle.tables.specs.Index.{tables}
use Rattle.tables.specs.Loans.{tables_in}
use Rattle.view.proofs.Views.{role_is, shown, view_without, view_refused, view_short, view_done}
use Rattle.view.proofs.view.Goals as goal

pub returns-in_err-check_view : goal.returns-in_err-check_view
unfolding answer_in number_in
returns-in_err-check_view c =
    let p = err_from_is_err_and c.from_residual.result c.from_residual.ensures.1 in
    rw (p.1, p.2) (view_refused _ c.args.x (tables_in c.args.t.now) c.in_err-check_view.ensures c.args.out.now (number_ne0 _))

pub returns-then-not-long_enough : goal.returns-then-not-long_enough
unfolding answer_in number_in refusal_number
returns-then-not-long_enough c =
    let t = tables_in c.args.t.now in
    view_short _ c.args.x t c.in_ok-check_view.ensures c.args.out.now refl (c.size-length.ensures t)
    (leb-false _ _ (sym c.long_enough.ensures ∙ c.if-not-long_enough.true))

pub write_view-requires : goal.write_view-requires
unfolding number_in
write_view-requires c =
    let t = tables_in c.args.t.now in
    let k = c.size-length.ensures (tables t.checkpoints [] [] t.parts t.malformed t.hints t.confirmed) in
    let l = leb-true c.size-length.result (length c.args.out.now) (sym c.long_enough.ensures ∙ c.if-not-long_enough.false) in (
      shown _ c.args.x t c.in_ok-check_view.ensures refl,
      role_is _ c.args.x t c.in_ok-check_view.ensures refl,
      omega (arith, k, l),
    )

pub returns : goal.returns
unfolding answer_in number_in
returns c =
    let t = tables_in c.args.t.now in
    view_done _ c.args.x t c.in_ok-check_view.ensures c.args.out.now refl (c.size-length.ensures t)
    (leb-true _ _ (sym c.long_enough.ensures ∙ c.if-not-long_enough.false))
    (rw (view_without c.args.role c.args.x t) at c.write_view.ensures)
