use mathlib.Core.Bool.{not}
use mathlib.Core.Path.{ap}
use mathlib.Core.Path.{sym, ◌∙◌}
use Rattle.index.proofs.Questions.{passes}
use Rattle.add_hints.proofs.Added.{room_is, own_rise, add_no, add_13, add_yes}
use Rattle.add_hints.proofs.add_hints.Goals as goal

pub returns-then-number-ne0 : goal.returns-then-number-ne0
returns-then-number-ne0 c = add_no _ _ _ c.refuses-number.ensures c.if-number-ne0.true

pub returns-then-not-question13 : goal.returns-then-not-question13
returns-then-not-question13 c = add_13 _ _ _ c.refuses-number.ensures c.if-number-ne0.false c.question13.ensures (ap not c.if-not-question13.true)

pub merge_hints-count-requires : goal.merge_hints-count-requires
merge_hints-count-requires c =
    let p = passes _ _ (sym c.refuses-number.ensures ∙ c.if-number-ne0.false) in
    (room_is c.args.list.now p c.question13.ensures (ap not c.if-not-question13.false), own_rise p)

pub returns : goal.returns
returns c =
    rw c.with_count.ensures
    (add_yes _ _ _ c.refuses-number.ensures c.if-number-ne0.false c.question13.ensures (ap not c.if-not-question13.false)
    (record {
      checkpoints = λ i. (c.type_inv.checkpoints i).fits;
      frames = λ i. (c.type_inv.frames i).fits;
      store = λ i. (c.type_inv.store i).fits;
      parts = λ i. (c.type_inv.parts i).fits;
      malformed = λ i. (c.type_inv.malformed i).fits;
      hints = λ i. (c.slice_known-1.given i).fits;
      confirmed = λ i. (c.type_inv.confirmed i).fits;
    })
    c.merge_hints-count.ensures.0 c.merge_hints-count.ensures.1)
