use Rattle.save.proofs.Saving.{framed, save_short, save_done}
use mathlib.Core.Path.{refl, sym, ◌∙◌}
use native.Mathlib.Omega.{arith}
use borrow.Author.Tests.{leb-true, leb-false}
use lib.ListN.{length}
use Rattle.rules.specs.Refusals.{answer_in, number_in, refusal_number}
use Rattle.tables.specs.Loans.{tables_in}
use Rattle.save.proofs.to_bytes.Goals as goal

pub saved_length-length-requires : goal.saved_length-length-requires
unfolding number_in
saved_length-length-requires c = framed c.args.x (tables_in c.args.t.now) (sym c.in_ok-check.ensures)

pub returns-then-not-long_enough : goal.returns-then-not-long_enough
unfolding answer_in number_in refusal_number
returns-then-not-long_enough c =
    save_short c.args.x _ c.args.out.now c.in_ok-check.ensures refl (c.saved_length-length.ensures (tables_in c.args.t.now) refl)
    (leb-false _ _ (sym c.long_enough.ensures ∙ c.if-not-long_enough.true))

pub write_saved-requires : goal.write_saved-requires
unfolding number_in
write_saved-requires c =
    let k = c.saved_length-length.ensures (tables_in c.args.t.now) refl in
    let l = leb-true c.saved_length-length.result (length c.args.out.now) (sym c.long_enough.ensures ∙ c.if-not-long_enough.false) in
    (sym c.in_ok-check.ensures, omega (arith, k, l))

pub returns : goal.returns
unfolding answer_in number_in
returns c =
    save_done c.args.x _ c.args.out.now c.in_ok-check.ensures refl (c.saved_length-length.ensures (tables_in c.args.t.now) refl)
    (leb-true _ _ (sym c.long_enough.ensures ∙ c.if-not-long_enough.false)) c.write_saved.ensures
