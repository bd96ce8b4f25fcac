-- 1 to 4 of both lists with their kind bytes, then 41 to 43. Assumes nothing.
use mathlib.Core.Path.{◌≡◌, refl, sym, ap, ◌∙◌}
use mathlib.Core.Bool.{◌&&◌, cond}
use mathlib.Core.List.{List, [], ◌∷◌}
use Prim.Native.Nat.{ℕ, ◌*◌, ◌≤◌, min}
use native.Mathlib.Omega.{arith}
use lib.Dec.{eqb}
use lib.ListN.{length}
use borrow.Author.Tests.{eq-eqb, ne_eqb, eqb-true, eqb-false}
use Rattle.field.proofs.Records.{records_length}
use Rattle.rules.specs.declared.AreaIndex.{AreaIndex}
use Rattle.rules.specs.Tests.{each, Ask, ask, first_no, Accepted, after}
use Rattle.rules.specs.Questions.{both, four_of, ask_four}
use Rattle.rules.specs.File.{decode_checkpoint}
use Rattle.rules.specs.Merge.{question41, question42, question43, further, merge_number}
use Rattle.rules.proofs.Tests.{test, asked}
use Rattle.tables.specs.Index.{Tables, room_of, index_in, kinds_in, kinded_number, kinded, refusal, lowest}
use Rattle.index.proofs.Four.{Later, number_more, kinded_more, lowest_both}
use Rattle.index.proofs.Questions.{passes, passes_long}
use Rattle.merge.specs.Merge.{merge_refusal, further_in}
use Rattle.merge.specs.Steps.{join_number, Joins}

pub lowest_zero : (m n : ℕ) → lowest m n ≡ 0 → (m ≡ 0) × (n ≡ 0)
unfolding lowest
lowest_zero m n e =
    test (eqb m 0) (λ a. (eqb-true m 0 a, rw a at e))
    (λ a. let p = eqb-false m 0 a in
    test (eqb n 0) (λ b. let z : m ≡ 0 = rw (a, b) at e in absurd (p z))
    (λ b. let q = eqb-false n 0 b in let z : min m n ≡ 0 = rw (a, b) at e in let f : ⊥ = omega (arith, p, q) in absurd f))

module _ (x : AreaIndex) (t : Tables) (y : AreaIndex) (u : Tables) where
  abbrev rest : List Ask
  rest =
      ask (question41 (index_in x t) (index_in y u)) 41 ∷ ask (question42 (index_in x t) (index_in y u)) 42 ∷ ask (question43 (index_in x t) (index_in y u)) 43 ∷ []

  rest_is : join_number x t.checkpoints y u.checkpoints ≡ first_no rest
  unfolding join_number question41 question42 question43
  rest_is = refl

  rest_later : Later rest
  unfolding each
  rest_later = refl

  four_is : lowest (refusal x t) (refusal y u) ≡ kinded_number (kinds_in x t && kinds_in y u) (first_no (ask_four (both (four_of (room_of t) (index_in x t)) (four_of (room_of u) (index_in y u))) []))
  unfolding refusal
  four_is = sym (lowest_both (kinds_in x t) (kinds_in y u) (four_of (room_of t) (index_in x t)) (four_of (room_of u) (index_in y u)))

  -- 41 to 43 where 1 to 4 give no number
  refusal_is : merge_refusal x t y u ≡ cond (eqb (lowest (refusal x t) (refusal y u)) 0) (join_number x t.checkpoints y u.checkpoints) (lowest (refusal x t) (refusal y u))
  unfolding merge_refusal merge_number
  refusal_is = number_more (kinds_in x t && kinds_in y u) _ rest rest_later four_is ∙ rw (← rest_is)

  module _ {a b n : ℕ} (p : a ≡ refusal x t) (q : b ≡ refusal y u) (l : n ≡ lowest a b) where
    lowest_is : n ≡ lowest (refusal x t) (refusal y u)
    lowest_is = l ∙ rw (p, q)

    pub first_refuses : (n ≡ 0 → ⊥) → n ≡ merge_refusal x t y u
    first_refuses h = sym (refusal_is ∙ rw (← lowest_is, ne_eqb n 0 h))

    pub then_refuses : {k : ℕ} → n ≡ 0 → k ≡ join_number x t.checkpoints y u.checkpoints → k ≡ merge_refusal x t y u
    then_refuses h e = e ∙ sym (refusal_is ∙ rw (← lowest_is, eq-eqb n 0 h))

    -- the checkpoints that are compared are there
    pub common_room : n ≡ 0 → (x.checkpoints * 24 ≤ length t.checkpoints) × (y.checkpoints * 24 ≤ length u.checkpoints)
    common_room h =
        let z = lowest_zero (refusal x t) (refusal y u) (sym lowest_is ∙ h) in
        ((passes_long (passes x t z.0)).checkpoints, (passes_long (passes y u z.1)).checkpoints)

  after_both : {A : Type 0} (n m : ℕ) (r : A) → after (cond (eqb n 0) m n) (Accepted r) ≡ after n (after m (Accepted r))
  unfolding after
  after_both n m r = test (eqb n 0) (λ e. rw e) (λ e. rw (e, e))

  -- what follows the questions, by the number
  pub asked_after : {A : Type 0} {n : ℕ} (r : A) → n ≡ merge_refusal x t y u
      → kinded (kinds_in x t && kinds_in y u) (after (merge_number (room_of t) (index_in x t) (room_of u) (index_in y u)) (Accepted r)) ≡ after n (Accepted r)
  unfolding merge_number
  asked_after {A} {n} r e =
      kinded_more (kinds_in x t && kinds_in y u) _ rest rest_later four_is r
      ∙ sym (ap (λ (k : ℕ). after k (Accepted r)) (e ∙ refusal_is) ∙ rw rest_is (after_both (lowest (refusal x t) (refusal y u)) (first_no rest) r))

  -- nothing refuses
  pub joins : {n : ℕ} → n ≡ merge_refusal x t y u → n ≡ 0 → Joins x t y u
  joins {n} e z =
      let w : cond (eqb (lowest (refusal x t) (refusal y u)) 0) (join_number x t.checkpoints y u.checkpoints) (lowest (refusal x t) (refusal y u)) ≡ 0 = sym refusal_is ∙ sym e ∙ z in
      let v : lowest (refusal x t) (refusal y u) ≡ 0 =
      test (eqb (lowest (refusal x t) (refusal y u)) 0) (λ a. eqb-true _ 0 a) (λ a. rw a at w) in
      let k : join_number x t.checkpoints y u.checkpoints ≡ 0 = rw v at w in
      let s = lowest_zero (refusal x t) (refusal y u) v in
      let h = asked rest refl (sym rest_is ∙ k) in
      record { own = passes x t s.0; other = passes y u s.1; area = h.0; images = h.1.0; reading = h.1.1.0 }

  -- further, on values
  pub further_is : further_in x y ≡ further (index_in x t).scan (index_in y u).scan
  unfolding further_in further
  further_is = rw (records_length 24 decode_checkpoint x.checkpoints t.checkpoints, records_length 24 decode_checkpoint y.checkpoints u.checkpoints)
