use mathlib.Core.Path.{refl, sym, ◌∙◌}
use mathlib.Core.List.{[], ◌∷◌}
use Prim.Native.Nat.{◌+◌, ◌≤◌}
use lib.ListN.{length}
use native.Mathlib.Omega.{arith}
use borrow.Author.Tests.{leb-true, leb-false}
use Rattle.rules.specs.Refusals.{answer_in, refusal_number}
use Rattle.rules.specs.Values.{max32}
use Rattle.tables.specs.Index.{index_in}
use Rattle.tables.specs.Loans.{tables_in}
use Rattle.save.proofs.Saving.{framed}
use Rattle.disc_save.proofs.Files.{file_of_two}
use Rattle.disc_save.proofs.Answers.{two_contents, two_small, two_length, as_broken, as_short, as_done}
use Rattle.disc_save.proofs.write_lists.Goals as goal
use Rattle.disc_save.proofs.write_lists.Goals.{Else-not-two_fit}

small : (p : goal.Else-not-two_fit) → (28 + p.saved_length-m.result ≤ max32) × (p.saved_length-n.result ≤ max32)
small p =
    let x = index_in p.args.x (tables_in p.args.t.now) in
    let y = index_in p.args.y (tables_in p.args.other.now) in
    let l = p.saved_length-m.ensures (tables_in p.args.t.now) refl in
    let k = p.saved_length-n.ensures (tables_in p.args.other.now) refl in
    two_small x y l k (two_contents x y p.slot_of-slot.ensures p.slot_of-next.ensures l k p.two_fit.ensures) p.if-not-two_fit.false

pub saved_length-m-requires : goal.saved_length-m-requires
saved_length-m-requires c = framed c.args.x (tables_in c.args.t.now) c.requires.0

pub saved_length-n-requires : goal.saved_length-n-requires
saved_length-n-requires c = framed c.args.y (tables_in c.args.other.now) c.requires.1

pub returns-then-not-two_fit : goal.returns-then-not-two_fit
unfolding answer_in refusal_number
returns-then-not-two_fit c =
    let x = index_in c.args.x (tables_in c.args.t.now) in
    let y = index_in c.args.y (tables_in c.args.other.now) in
    let l = c.saved_length-m.ensures (tables_in c.args.t.now) refl in
    let k = c.saved_length-n.ensures (tables_in c.args.other.now) refl in
    as_broken (x ∷ y ∷ []) c.args.out.now
    (two_contents x y c.slot_of-slot.ensures c.slot_of-next.ensures l k c.two_fit.ensures) c.if-not-two_fit.true

pub overflow_add-total : goal.overflow_add-total
overflow_add-total c = let s = small c in omega (arith, s.0, s.1)

pub overflow_add-total-2 : goal.overflow_add-total-2
overflow_add-total-2 c = let s = small c in omega (arith, s.0, s.1)

pub returns-then-not-long_enough : goal.returns-then-not-long_enough
unfolding answer_in refusal_number
returns-then-not-long_enough c =
    let x = index_in c.args.x (tables_in c.args.t.now) in
    let y = index_in c.args.y (tables_in c.args.other.now) in
    let l = c.saved_length-m.ensures (tables_in c.args.t.now) refl in
    let k = c.saved_length-n.ensures (tables_in c.args.other.now) refl in
    as_short (x ∷ y ∷ []) c.args.out.now
    (two_contents x y c.slot_of-slot.ensures c.slot_of-next.ensures l k c.two_fit.ensures) c.if-not-two_fit.false
    (two_length x y l k)
    (leb-false _ _ (sym c.long_enough.ensures ∙ c.if-not-long_enough.true))

pub write_table-at-requires : goal.write_table-at-requires
write_table-at-requires c =
    let s = small (goal.at.write_table-at-requires c).Else-not-two_fit in
    let room : 28 + c.saved_length-m.result + c.saved_length-n.result ≤ length c.args.out.now = leb-true _ _ (sym c.long_enough.ensures ∙ c.if-not-long_enough.false) in
    (omega (arith, s.0), s.1, omega (arith, room))

pub put_list-at-requires : goal.put_list-at-requires
put_list-at-requires c =
    let room : 28 + c.saved_length-m.result + c.saved_length-n.result ≤ length c.args.out.now = leb-true _ _ (sym c.long_enough.ensures ∙ c.if-not-long_enough.false) in (
      c.requires.0,
      c.saved_length-m.ensures (tables_in c.args.t.now) refl,
      omega (arith, room, c.write_table-at.ensures.ends, c.write_table-at.auto.out),
    )

pub put_list-requires : goal.put_list-requires
put_list-requires c =
    let room : 28 + c.saved_length-m.result + c.saved_length-n.result ≤ length c.args.out.now = leb-true _ _ (sym c.long_enough.ensures ∙ c.if-not-long_enough.false) in (
      c.requires.1,
      c.saved_length-n.ensures (tables_in c.args.other.now) refl,
      omega (arith, room, c.write_table-at.ensures.ends, c.write_table-at.auto.out, c.put_list-at.ensures.ends, c.put_list-at.auto.out),
    )

pub returns : goal.returns
unfolding answer_in
returns c =
    let x = index_in c.args.x (tables_in c.args.t.now) in
    let y = index_in c.args.y (tables_in c.args.other.now) in
    let l = c.saved_length-m.ensures (tables_in c.args.t.now) refl in
    let k = c.saved_length-n.ensures (tables_in c.args.other.now) refl in
    let room : 28 + c.saved_length-m.result + c.saved_length-n.result ≤ length c.args.out.now = leb-true _ _ (sym c.long_enough.ensures ∙ c.if-not-long_enough.false) in
    as_done (x ∷ y ∷ []) c.args.out.now
    (two_contents x y c.slot_of-slot.ensures c.slot_of-next.ensures l k c.two_fit.ensures) c.if-not-two_fit.false
    (two_length x y l k) room
    (file_of_two x y c.slot_of-slot.ensures c.slot_of-next.ensures l k room c.write_table-at.ensures c.put_list-at.ensures
    c.put_list.ensures)
