-- Questions 1 to 4 with the kind bytes, of one object and of two. Assumes nothing.
use mathlib.Core.Path.{◌≡◌, refl, sym, ◌∙◌}
use mathlib.Core.Bool.{Bool, true, false, ◌&&◌, cond}
use mathlib.Core.List.{List, [], ◌∷◌}
use Prim.Native.Nat.{ℕ, ◌<◌}
use native.Mathlib.Omega.{arith}
use borrow.Author.Tests.{eqb-true, ltb-true, lt-leb, ne_eqb}
use lib.Dec.{eqb, leb, ltb}
use Rattle.rules.specs.declared.AreaIndex.{AreaIndex}
use Rattle.rules.specs.Tests.{each, Ask, ask, first_no, Refused, Accepted, after, number_of}
use Rattle.rules.specs.Questions.{Four, both, ask_four, four}
use Rattle.rules.proofs.Tests.{test, never, choose, and_left, and_right}
use Rattle.tables.specs.Index.{Tables, room_of, index_in, kinds_in, or_four, kinded_number, kinded, refusal, lowest}

-- ---- what the number 4 covers
-- the questions that follow have higher numbers than 3
abbrev pub Later : List Ask → Type 0
Later qs = each (λ q. ltb 3 q.number) qs ≡ true

four_above : (n : ℕ) → 3 < n → or_four n ≡ 4
unfolding or_four
four_above n h =
    choose (λ (m : ℕ). m ≡ 4) (ltb 0 n && leb n 3) n 4 (λ e. never (and_right (ltb 0 n) (leb n 3) e) (lt-leb n 3 h)) (λ e. refl)

four_later : (qs : List Ask) → Later qs → or_four (first_no qs) ≡ 4
unfolding first_no each or_four
four_later [] l = refl
four_later (q ∷ qs) l =
    choose (λ (n : ℕ). or_four n ≡ 4) q.ok (first_no qs) q.number (λ e. four_later qs (and_right (ltb 3 q.number) _ l))
    (λ e. four_above q.number (ltb-true 3 q.number (and_left (ltb 3 q.number) _ l)))

-- it is no 0
some_four : (n : ℕ) → eqb (or_four n) 0 ≡ false
unfolding or_four
some_four n =
    choose (λ (m : ℕ). eqb m 0 ≡ false) (ltb 0 n && leb n 3) n 4
    (λ e. ne_eqb n 0 (λ z. let l = ltb-true 0 n (and_left (ltb 0 n) (leb n 3) e) in omega arith)) (λ e. refl)

-- ---- one object
number_after : {A : Type 0} (n : ℕ) (r : A) → number_of (after n (Accepted r)) ≡ n
unfolding number_of after
number_after n r = test (eqb n 0) (λ e. rw (e, eqb-true n 0 e)) (λ e. rw e)

after_some : {A : Type 0} (n : ℕ) (r : A) → eqb n 0 ≡ false → after n (Accepted r) ≡ Refused n
unfolding after
after_some n r e = rw e

after_twice : {A : Type 0} (n m : ℕ) (r : A) → after (cond (eqb n 0) m n) (Accepted r) ≡ after n (after m (Accepted r))
unfolding after
after_twice n m r = test (eqb n 0) (λ e. rw e) (λ e. rw (e, e))

kinded_after : {A : Type 0} (ok : Bool) (n : ℕ) (r : A) → kinded ok (after n (Accepted r)) ≡ after (kinded_number ok n) (Accepted r)
unfolding kinded kinded_number
kinded_after true n r = refl
kinded_after false n r = rw (number_after n r) (sym (after_some (or_four n) r (some_four n)))

-- what follows 1 to 4 is asked where they give no number
more : (ok a b c d : Bool) (qs : List Ask) → Later qs
    → kinded_number ok (first_no (ask a 1 ∷ ask b 2 ∷ ask c 3 ∷ ask d 4 ∷ qs))
    ≡ cond (eqb (kinded_number ok (first_no (ask a 1 ∷ ask b 2 ∷ ask c 3 ∷ ask d 4 ∷ []))) 0) (first_no qs)
    (kinded_number ok (first_no (ask a 1 ∷ ask b 2 ∷ ask c 3 ∷ ask d 4 ∷ [])))
unfolding kinded_number first_no or_four
more true false b c d qs l = refl
more true true false c d qs l = refl
more true true true false d qs l = refl
more true true true true false qs l = refl
more true true true true true qs l = refl
more false false b c d qs l = refl
more false true false c d qs l = refl
more false true true false d qs l = refl
more false true true true false qs l = refl
more false true true true true qs l = four_later qs l

module _ (ok : Bool) (p : Four) (qs : List Ask) (l : Later qs) {n : ℕ} (e : n ≡ kinded_number ok (first_no (ask_four p []))) where
  pub number_more : kinded_number ok (first_no (ask_four p qs)) ≡ cond (eqb n 0) (first_no qs) n
  number_more = more ok p.one p.two p.three p.four qs l ∙ rw (← e)

  pub kinded_more : {A : Type 0} (r : A) → kinded ok (after (first_no (ask_four p qs)) (Accepted r)) ≡ after n (after (first_no qs) (Accepted r))
  kinded_more r = kinded_after ok _ r ∙ rw number_more (after_twice n (first_no qs) r)

-- of an index in its tables: n is what `refuses` answers
module _ (x : AreaIndex) (t : Tables) (qs : List Ask) (l : Later qs) {n : ℕ} (e : n ≡ refusal x t) where
  pub kinded_index : {A : Type 0} (r : A)
      → kinded (kinds_in x t) (after (first_no (four (room_of t) (index_in x t) qs)) (Accepted r)) ≡ after n (after (first_no qs) (Accepted r))
  unfolding refusal
  kinded_index r = kinded_more (kinds_in x t) _ qs l e r

-- ---- two objects
-- the number of both is the lower of theirs, where 0 is none
both_bits : (a b c d e f g h : Bool)
    → first_no (ask (a && e) 1 ∷ ask (b && f) 2 ∷ ask (c && g) 3 ∷ ask (d && h) 4 ∷ [])
    ≡ lowest (first_no (ask a 1 ∷ ask b 2 ∷ ask c 3 ∷ ask d 4 ∷ [])) (first_no (ask e 1 ∷ ask f 2 ∷ ask g 3 ∷ ask h 4 ∷ []))
unfolding first_no lowest
both_bits false b c d false f g h = refl
both_bits false b c d true false g h = refl
both_bits false b c d true true false h = refl
both_bits false b c d true true true false = refl
both_bits false b c d true true true true = refl
both_bits true false c d false f g h = refl
both_bits true true false d false f g h = refl
both_bits true true true false false f g h = refl
both_bits true true true true false f g h = refl
both_bits true false c d true false g h = refl
both_bits true false c d true true false h = refl
both_bits true false c d true true true false = refl
both_bits true false c d true true true true = refl
both_bits true true false d true false g h = refl
both_bits true true true false true false g h = refl
both_bits true true true true true false g h = refl
both_bits true true false d true true false h = refl
both_bits true true false d true true true false = refl
both_bits true true false d true true true true = refl
both_bits true true true false true true false h = refl
both_bits true true true true true true false h = refl
both_bits true true true false true true true false = refl
both_bits true true true false true true true true = refl
both_bits true true true true true true true false = refl
both_bits true true true true true true true true = refl

-- 4 and the kinds are one question
pub one_bits : (ok a b c d : Bool)
    → kinded_number ok (first_no (ask a 1 ∷ ask b 2 ∷ ask c 3 ∷ ask d 4 ∷ [])) ≡ first_no (ask a 1 ∷ ask b 2 ∷ ask c 3 ∷ ask (d && ok) 4 ∷ [])
unfolding kinded_number first_no or_four
one_bits true false b c d = refl
one_bits true true false c d = refl
one_bits true true true false d = refl
one_bits true true true true false = refl
one_bits true true true true true = refl
one_bits false false b c d = refl
one_bits false true false c d = refl
one_bits false true true false d = refl
one_bits false true true true false = refl
one_bits false true true true true = refl

-- and 4 of both with the kinds of both
and_swap : (a b c d : Bool) → ((a && b) && (c && d)) ≡ ((a && c) && (b && d))
and_swap true b true d = refl
and_swap true true false d = refl
and_swap true false false d = refl
and_swap false b c d = refl

pub lowest_both : (ok ok' : Bool) (p q : Four)
    → kinded_number (ok && ok') (first_no (ask_four (both p q) []))
    ≡ lowest (kinded_number ok (first_no (ask_four p []))) (kinded_number ok' (first_no (ask_four q [])))
lowest_both ok ok' p q =
    one_bits (ok && ok') (p.one && q.one) (p.two && q.two) (p.three && q.three) (p.four && q.four)
    ∙ rw (
      and_swap p.four q.four ok ok',
      one_bits ok p.one p.two p.three p.four,
      one_bits ok' q.one q.two q.three q.four,
    ) (both_bits p.one p.two p.three (p.four && ok) q.one q.two q.three (q.four && ok'))
