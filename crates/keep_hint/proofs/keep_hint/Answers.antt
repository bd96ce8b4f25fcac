use mathlib.Core.Bool.{not}
use mathlib.Core.Path.{ap}
use mathlib.Core.Path.{sym, ◌∙◌}
use native.Mathlib.Omega.{arith}
use borrow.Author.Rules.{rules}
use Rattle.index.proofs.Questions.{passes, passes_hints}
use Rattle.keep_hint.proofs.Marked.{keep_no, keep_53, keep_yes, place_within}
use Rattle.keep_hint.proofs.keep_hint.Goals as goal

pub returns-then-number-ne0 : goal.returns-then-number-ne0
returns-then-number-ne0 c = keep_no _ _ _ c.refuses-number.ensures c.if-number-ne0.true

pub place_of-place-requires : goal.place_of-place-requires
place_of-place-requires c = (passes_hints (passes _ _ (sym c.refuses-number.ensures ∙ c.if-number-ne0.false))).hints

pub question53-requires : goal.question53-requires
question53-requires c = (passes_hints (passes _ _ (sym c.refuses-number.ensures ∙ c.if-number-ne0.false))).hints

pub returns-then-not-question53 : goal.returns-then-not-question53
returns-then-not-question53 c =
    keep_53 _ _ _ c.refuses-number.ensures c.if-number-ne0.false c.place_of-place.ensures
    c.question53.ensures
    (ap not c.if-not-question53.true)

pub set_mark-requires : goal.set_mark-requires
set_mark-requires c =
    let l = place_within _ _ _ c.refuses-number.ensures c.if-number-ne0.false c.place_of-place.ensures
    c.question53.ensures
    (ap not c.if-not-question53.false) in
    let r = (passes_hints (passes _ _ (sym c.refuses-number.ensures ∙ c.if-number-ne0.false))).hints in
    omega arith

pub returns : goal.returns
returns c =
    keep_yes _ _ _ c.refuses-number.ensures c.if-number-ne0.false c.place_of-place.ensures
    c.question53.ensures
    (ap not c.if-not-question53.false)
    (record {
      checkpoints = λ i. (c.type_inv.checkpoints i).fits;
      frames = λ i. (c.type_inv.frames i).fits;
      store = λ i. (c.type_inv.store i).fits;
      parts = λ i. (c.type_inv.parts i).fits;
      malformed = λ i. (c.type_inv.malformed i).fits;
      hints = λ i. search rules;
      confirmed = λ i. (c.type_inv.confirmed i).fits;
    }) c.set_mark.ensures
