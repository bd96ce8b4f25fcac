use mathlib.Core.Path.{refl, sym}
use Rattle.rules.specs.Refusals.{answer_in, number_in}
use Rattle.tables.specs.Loans.{tables_in}
use Rattle.save.proofs.Saving.{framed}
use Rattle.sizes.proofs.Files.{length_told, number_told}
use Rattle.sizes.proofs.file_length.Goals as goal

pub saved_length-requires : goal.saved_length-requires
unfolding number_in
saved_length-requires c = framed c.args.x (tables_in c.args.t.now) (sym c.in_ok-check.ensures)

pub returns-clause-answer : goal.returns-clause-answer
unfolding answer_in number_in
returns-clause-answer c =
    length_told c.args.x _ c.in_ok-check.ensures refl (c.saved_length.ensures (tables_in c.args.t.now) refl)

pub returns-clause-number : goal.returns-clause-number
unfolding number_in
returns-clause-number c =
    number_told c.args.x _ c.in_ok-check.ensures refl (c.saved_length.ensures (tables_in c.args.t.now) refl)
