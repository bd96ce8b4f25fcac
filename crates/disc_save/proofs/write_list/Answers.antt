use mathlib.Core.Path.{refl, sym, ◌∙◌}
use mathlib.Core.List.{[], ◌∷◌}
use Prim.Native.Nat.{◌+◌, ◌≤◌}
use lib.ListN.{length}
use native.Mathlib.Omega.{arith}
use borrow.Author.Tests.{leb-true, leb-false}
use Rattle.rules.specs.Refusals.{answer_in, refusal_number}
use Rattle.rules.specs.Values.{max32}
use Rattle.tables.specs.Index.{index_in}
use Rattle.tables.specs.Loans.{tables_in}
use Rattle.save.proofs.Saving.{framed}
use Rattle.disc_save.proofs.Files.{file_of_one}
use Rattle.disc_save.proofs.Answers.{one_contents, one_small, one_length_lemma, as_broken, as_short, as_done}
use Rattle.disc_save.proofs.write_list.Goals as goal
use Rattle.disc_save.proofs.write_list.Goals.{Else-not-one_fits}

small : (p : goal.Else-not-one_fits) → p.saved_length-m.result ≤ max32
small p =
    let t = tables_in p.args.t.now in
    let x = index_in p.args.x t in
    let l = p.saved_length-m.ensures t refl in
    one_small x l (one_contents x p.slot_of-slot.ensures l (p.one_fits.ensures _)) p.if-not-one_fits.false

pub saved_length-m-requires : goal.saved_length-m-requires
saved_length-m-requires c = framed c.args.x (tables_in c.args.t.now) c.requires

pub returns-then-not-one_fits : goal.returns-then-not-one_fits
unfolding answer_in refusal_number
returns-then-not-one_fits c =
    let t = tables_in c.args.t.now in
    let x = index_in c.args.x t in
    let l = c.saved_length-m.ensures t refl in
    as_broken (x ∷ []) c.args.out.now (one_contents x c.slot_of-slot.ensures l (c.one_fits.ensures _)) c.if-not-one_fits.true

pub length_of_one-total-requires : goal.length_of_one-total-requires
length_of_one-total-requires c = small c

pub returns-then-not-long_enough : goal.returns-then-not-long_enough
unfolding answer_in refusal_number
returns-then-not-long_enough c =
    let t = tables_in c.args.t.now in
    let x = index_in c.args.x t in
    let l = c.saved_length-m.ensures t refl in
    as_short (x ∷ []) c.args.out.now (one_contents x c.slot_of-slot.ensures l (c.one_fits.ensures _)) c.if-not-one_fits.false
    (c.length_of_one-total.ensures ∙ one_length_lemma x l)
    (leb-false _ _ (sym c.long_enough.ensures ∙ c.if-not-long_enough.true))

pub entry_of_one-requires : goal.entry_of_one-requires
entry_of_one-requires c = small (goal.at.entry_of_one-requires c).Else-not-one_fits

pub write_one-at-requires : goal.write_one-at-requires
write_one-at-requires c =
    let e = leb-true c.length_of_one-total.result (length c.args.out.now)
    (sym c.long_enough.ensures ∙ c.if-not-long_enough.false) in
    omega (arith, e, c.length_of_one-total.ensures)

pub put_list-requires : goal.put_list-requires
put_list-requires c =
    let e = leb-true c.length_of_one-total.result (length c.args.out.now)
    (sym c.long_enough.ensures ∙ c.if-not-long_enough.false) in (
      c.requires,
      c.saved_length-m.ensures (tables_in c.args.t.now) refl,
      omega (arith, e, c.length_of_one-total.ensures, c.write_one-at.ensures.ends, c.write_one-at.auto.out),
    )

pub returns : goal.returns
unfolding answer_in
returns c =
    let t = tables_in c.args.t.now in
    let x = index_in c.args.x t in
    let l = c.saved_length-m.ensures t refl in
    let e = leb-true c.length_of_one-total.result (length c.args.out.now)
    (sym c.long_enough.ensures ∙ c.if-not-long_enough.false) in
    let room : 16 + c.saved_length-m.result ≤ length c.args.out.now = omega (arith, e, c.length_of_one-total.ensures) in
    rw c.length_of_one-total.ensures
    (as_done (x ∷ []) c.args.out.now (one_contents x c.slot_of-slot.ensures l (c.one_fits.ensures _)) c.if-not-one_fits.false
    (one_length_lemma x l) room
    (file_of_one x c.slot_of-slot.ensures l room (rw c.entry_of_one.ensures at c.write_one-at.ensures) c.put_list.ensures))
