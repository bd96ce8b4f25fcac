use mathlib.Core.Path.{refl, sym}
use native.Mathlib.Omega.{arith}
use Rattle.rules.specs.Refusals.{answer_in, number_in, refusal_number}
use Rattle.tables.specs.Loans.{tables_in}
use Rattle.save.proofs.Saving.{framed}
use Rattle.disc_save.proofs.length.Lengths.{one_broken, one_told, one_number_broken, one_number_told, one_fits}
use Rattle.disc_save.proofs.length.one_length.Goals as goal

pub saved_length-m-requires : goal.saved_length-m-requires
unfolding number_in
saved_length-m-requires c = framed c.args.x (tables_in c.args.t.now) (sym c.in_ok-check.ensures)

pub returns-then-not-one_fits-clause-answer : goal.returns-then-not-one_fits-clause-answer
unfolding answer_in number_in refusal_number
returns-then-not-one_fits-clause-answer c =
    one_broken c.args.x _ c.in_ok-check.ensures refl refl (c.saved_length-m.ensures (tables_in c.args.t.now) refl)
    (c.one_fits.ensures _) c.if-not-one_fits.true

pub returns-then-not-one_fits-clause-number : goal.returns-then-not-one_fits-clause-number
unfolding number_in refusal_number
returns-then-not-one_fits-clause-number c =
    one_number_broken c.args.x _ c.in_ok-check.ensures refl refl (c.saved_length-m.ensures (tables_in c.args.t.now) refl)
    (c.one_fits.ensures _) c.if-not-one_fits.true

pub overflow_add-result : goal.overflow_add-result
unfolding number_in
overflow_add-result c =
    let small = one_fits c.args.x _ c.in_ok-check.ensures refl refl (c.saved_length-m.ensures (tables_in c.args.t.now) refl)
    (c.one_fits.ensures _) c.if-not-one_fits.false in
    omega (arith, small)

pub returns-clause-answer : goal.returns-clause-answer
unfolding answer_in number_in
returns-clause-answer c =
    one_told c.args.x _ c.in_ok-check.ensures refl refl (c.saved_length-m.ensures (tables_in c.args.t.now) refl)
    (c.one_fits.ensures _) c.if-not-one_fits.false

pub returns-clause-number : goal.returns-clause-number
unfolding number_in
returns-clause-number c =
    one_number_told c.args.x _ c.in_ok-check.ensures refl refl (c.saved_length-m.ensures (tables_in c.args.t.now) refl)
    (c.one_fits.ensures _) c.if-not-one_fits.false
