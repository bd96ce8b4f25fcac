use mathlib.Core.Path.{refl}
use Rattle.rules.specs.Refusals.{number_in}
use Rattle.tables.specs.Loans.{tables_in}
use Rattle.save.proofs.Saving.{framed}
use Rattle.disc_save.proofs.length.Lengths.{both_pass, both_told, both_number}
use Rattle.disc_save.proofs.length.both_length.Goals as goal

pub saved_length-m-requires : goal.saved_length-m-requires
unfolding number_in
saved_length-m-requires c =
    framed c.args.x (tables_in c.args.t.now) (both_pass c.args.x _ c.args.y _ c.in_ok-ask_both.ensures refl).0

pub saved_length-n-requires : goal.saved_length-n-requires
unfolding number_in
saved_length-n-requires c =
    framed c.args.y (tables_in c.args.other.now) (both_pass c.args.x _ c.args.y _ c.in_ok-ask_both.ensures refl).1

pub returns-clause-answer : goal.returns-clause-answer
unfolding number_in
returns-clause-answer c =
    let t = tables_in c.args.t.now in
    let u = tables_in c.args.other.now in
    both_told c.args.x t c.args.y u c.in_ok-ask_both.ensures refl c.slot_of.ensures
    (c.saved_length-m.ensures t refl) c.slot_of-2.ensures (c.saved_length-n.ensures u refl) c.length_by_slot.ensures

pub returns-clause-number : goal.returns-clause-number
unfolding number_in
returns-clause-number c =
    let t = tables_in c.args.t.now in
    let u = tables_in c.args.other.now in
    both_number _ c.args.x t c.args.y u
    (both_told c.args.x t c.args.y u c.in_ok-ask_both.ensures refl c.slot_of.ensures
    (c.saved_length-m.ensures t refl) c.slot_of-2.ensures (c.saved_length-n.ensures u refl) c.length_by_slot.ensures)
