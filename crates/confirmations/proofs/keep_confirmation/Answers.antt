use mathlib.Core.Bool.{not}
use mathlib.Core.Path.{ap, sym, refl}
use Rattle.rules.specs.Refusals.{refusal_number, answer_in, number_in}
use native.Mathlib.Omega.{arith}
use borrow.Author.Rules.{rules}
use Rattle.index.proofs.Questions.{passes}
use Rattle.confirmations.proofs.Keeping.{room_is, lsn_small, keep_14, keep_unchecked, keep_zero}
use Rattle.confirmations.proofs.Keeping.{keep_yes}
use Rattle.confirmations.proofs.keep_confirmation.Goals as goal
use Rattle.confirmations.proofs.keep_confirmation.Goals.{then-not-is_checked-via-then-not-is_checked, then-not-is_checked-via-else-not-is_checked+then-x-eq0}

pub returns-then-not-question14 : goal.returns-then-not-question14
unfolding answer_in number_in refusal_number
returns-then-not-question14 c = keep_14 _ _ _ _ _ c.in_ok-check.ensures refl c.question14.ensures (ap not c.if-not-question14.true)

pub returns-then-not-is_checked : goal.returns-then-not-is_checked
unfolding answer_in number_in
returns-then-not-is_checked c =
    let q = ap not c.if-not-question14.false in
    elim c.then-not-is_checked.branch [
      | then-not-is_checked-via-then-not-is_checked w ↦
          keep_unchecked _ _ _ _ _ c.in_ok-check.ensures refl c.question14.ensures q
          c.is_checked.ensures (ap not w.if-not-is_checked.true)
      | then-not-is_checked-via-else-not-is_checked+then-x-eq0 w ↦
          keep_zero _ _ _ _ _ c.in_ok-check.ensures refl c.question14.ensures q w.if-x-eq0.true
    ]

pub overflow_cast-c : goal.overflow_cast-c
unfolding answer_in number_in
overflow_cast-c c =
    let p = passes _ _ (sym c.in_ok-check.ensures) in
    omega (arith, lsn_small c.args.lsn c.args.threshold p c.question14.ensures (ap not c.if-not-question14.false))

pub keep_one-count-requires : goal.keep_one-count-requires
unfolding answer_in number_in
keep_one-count-requires c = room_is (passes _ _ (sym c.in_ok-check.ensures))

pub returns : goal.returns
unfolding answer_in number_in
returns c =
    rw c.with_count.ensures
    (keep_yes _ _ _ _ _ c.in_ok-check.ensures refl c.question14.ensures (ap not c.if-not-question14.false)
    c.is_checked.ensures (ap not c.if-not-is_checked.false) (λ z. omega (arith, c.if-x-eq0.false))
    (record {
      checkpoints = λ i. (c.type_inv.checkpoints i).fits;
      frames = λ i. (c.type_inv.frames i).fits;
      store = λ i. (c.type_inv.store i).fits;
      parts = λ i. (c.type_inv.parts i).fits;
      malformed = λ i. (c.type_inv.malformed i).fits;
      hints = λ i. (c.type_inv.hints i).fits;
      confirmed = λ i. search rules;
    })
    c.keep_one-count.ensures)
