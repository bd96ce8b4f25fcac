-- What holds of disc files. Assumes nothing.
use Rattle.std.specs.Prelude.{Option, None, Some}
use mathlib.Core.Path.{◌≡◌, refl, sym, ap, ◌∙◌}
use mathlib.Core.Logic.{◌≢◌}
use mathlib.Core.Bool.{Bool, true, false, ◌&&◌}
use mathlib.Core.List.{List, [], ◌∷◌, ◌++◌, append_assoc}
use Prim.Native.Nat.{ℕ, ◌+◌, ◌≤◌, ◌<◌}
use native.Mathlib.Omega.{arith}
use borrow.Author.Tests.{eq-eqb, ne_eqb, leb-true, lt-ltb, le-ltb}
use lib.Dec.{leb, ltb}
use lib.ListN.{length}
use Rattle.field.specs.Number.{encode}
use Rattle.field.specs.Records.{bytes_of}
use Rattle.field.proofs.Format.{none as nothing, one}
use Rattle.rules.specs.declared.Area.{Area}
use Rattle.rules.specs.declared.Header.{Header}
use Rattle.rules.specs.Tests.{ask, first_no, Answer, Accepted, after, bind}
use Rattle.rules.specs.Values.{Index, Lengths}
use Rattle.rules.specs.Questions.{area_ok, question1, question2, question3, question4, Four, both, ask_four, four_of}
use Rattle.rules.specs.Sizes.{sized}
use Rattle.rules.specs.File.{read_header, header_bytes, header_of, body_of, saved, saved_length}
use Rattle.rules.specs.Load.{limited, load}
use Rattle.rules.proofs.Tests.{test, order, all→, and_left, and_right, both as each_of, asked→, →asked, accepted_eq, bind→, →bind}
use Rattle.laws.specs.Statements.{Savable, stripped}
use Rattle.laws.proofs.Facts.{facts}
use Rattle.laws.proofs.Header.{header_fits}
use Rattle.laws.proofs.Layouts.{header_back}
use Rattle.laws.proofs.Length.{saved_length_is}
use Rattle.laws.proofs.Limit.{limited_load, large_limit}
use Rattle.theorems.specs.Terms.{Valid, Ample}
use Rattle.theorems.proofs.Accepts.{refuses_nothing}
use Rattle.rules_disc.specs.Disc.{Disc, entry, encode_entry, slot_of, slot_area, entries_in, entry_of, entries_from, contents_of, contents_ok, entries_ok, bodies_length, disc_length, disc_bytes, load_body, load_bodies, load_disc, save_lists, save_one, by_slot, save_both}
use Rattle.rules_disc.specs.Disc as rules
use Rattle.theorems.specs.DiscFile.{OneDiscFile, disc, BothLoad, OneLoads, DiscLoads, body_in, ListFile, SavedBodies, Loads, BodiesLoad}
use Rattle.theorems.proofs.disc.Tables.{Fit, first→, saved_of, table_ok, body_is}

-- ---- an accepted save
-- 1 to 4 of what p asks, 54, 40, and the file
pub record Saves (p : Four) (xs : List Index) (out : ℕ) (b : List ℕ) : Type 0 where
  pub one : p.one ≡ true
  pub two : p.two ≡ true
  pub three : p.three ≡ true
  pub four : p.four ≡ true
  pub rising : entries_ok 0 (contents_of xs) ≡ true
  pub is : disc_bytes xs ≡ b

saves : (p : Four) (xs : List Index) (out : ℕ) (b : List ℕ) → save_lists p xs out ≡ Accepted b → Saves p xs out b
unfolding save_lists
saves p xs out b e =
    let r = asked→ (ask_four p (ask (entries_ok 0 (contents_of xs)) 54 ∷ ask (leb (disc_length xs) out) 40 ∷ []))
    (Accepted (disc_bytes xs)) b refl e in
    let q = r.0 in
    record {
      one = q.0;
      two = q.1.0;
      three = q.1.1.0;
      four = q.1.1.1.0;
      rising = q.1.1.1.1.0;
      is = accepted_eq (disc_bytes xs) b r.1;
    }

pub savable : (l : Lengths) (x : Index) → Valid l x → sized x ≡ true → Savable x
savable l x v z = record { one = v.one; two = v.two; four = v.four; sizes = z }

-- both lists of an accepted save
module _ (l : Lengths) (x : Index) (m : Lengths) (y : Index) (out : ℕ) (b : List ℕ)
    (e : save_both l x m y out ≡ Accepted b) where
  both_saves : Saves (both (four_of l x) (four_of m y)) (by_slot x y) out b
  unfolding save_both
  both_saves = saves (both (four_of l x) (four_of m y)) (by_slot x y) out b e

  pub first_valid : Valid l x
  first_valid =
      let s = both_saves in
      record {
        one = and_left (question1 x) (question1 y) s.one;
        two = and_left (question2 x) (question2 y) s.two;
        three = and_left (question3 l x) (question3 m y) s.three;
        four = and_left (question4 x) (question4 y) s.four;
      }

  pub second_valid : Valid m y
  second_valid =
      let s = both_saves in
      record {
        one = and_right (question1 x) (question1 y) s.one;
        two = and_right (question2 x) (question2 y) s.two;
        three = and_right (question3 l x) (question3 m y) s.three;
        four = and_right (question4 x) (question4 y) s.four;
      }

-- ---- the slot is in the bytes
slot_saved : (x : Index) → Savable x → slot_of x ≡ (read_header (saved x)).slot
unfolding saved body_of header_of
slot_saved x s =
    let h = header_back (header_of x) _ (header_fits x (facts x s)) in
    sym (ap (λ (g : Header). g.slot) (ap read_header (append_assoc (header_bytes (header_of x)) _ _) ∙ h))

length_saved : (x x' : Index) → saved x ≡ saved x' → saved_length x ≡ saved_length x'
length_saved x x' e = (saved_length_is x).0 ∙ ap length e ∙ sym (saved_length_is x').0

-- ---- lists of equal content
-- the answer for two lists, by what it is made of
abbrev answer_of : Four → ℕ → ℕ → ℕ → ℕ → ℕ → List ℕ → List ℕ → Answer (List ℕ)
answer_of p out s t m n u v =
    after (first_no (ask_four p (ask (entries_ok 0 (entry s 28 m ∷ entry t (28 + m) n ∷ [])) 54
    ∷ ask (leb (28 + (m + (n + 0))) out) 40 ∷ [])))
    (Accepted (encode 4 2 ++ (bytes_of encode_entry (entry s 28 m ∷ entry t (28 + m) n ∷ []) ++ (u ++ (v ++ [])))))

answer_is : (p : Four) (out : ℕ) (x y : Index) → save_lists p (x ∷ y ∷ []) out
    ≡ answer_of p out (slot_of x) (slot_of y) (saved_length x) (saved_length y) (saved x) (saved y)
unfolding save_lists disc_bytes disc_length bodies_length entries_from bytes_of
answer_is p out x y = refl

module _ (p : Four) (out : ℕ) where
  same_lists : (x y x' y' : Index) → slot_of x ≡ slot_of x' → slot_of y ≡ slot_of y' → saved x ≡ saved x' → saved y
      ≡ saved y'
      → save_lists p (x ∷ y ∷ []) out ≡ save_lists p (x' ∷ y' ∷ []) out
  same_lists x y x' y' s t e f =
      answer_is p out x y ∙ (λ i. answer_of p out (s i) (t i) (length_saved x x' e i) (length_saved y y' f i) (e i)
      (f i)) ∙ sym (answer_is p out x' y')

  same_order : (x y x' y' : Index) → slot_of x ≡ slot_of x' → slot_of y ≡ slot_of y' → saved x ≡ saved x' → saved y
      ≡ saved y'
      → save_lists p (by_slot x y) out ≡ save_lists p (by_slot x' y') out
  unfolding by_slot
  same_order x y x' y' s t e f =
      let o : ltb (slot_of x) (slot_of y) ≡ ltb (slot_of x') (slot_of y') = rw (s, t) in
      test (ltb (slot_of x) (slot_of y)) (λ h. rw (h, sym o ∙ h) (same_lists x y x' y' s t e f))
      (λ h. rw (h, sym o ∙ h) (same_lists y x y' x' t s f e))

-- lists that pass 1 to 4
abbrev passed : Four
passed = record { one = true; two = true; three = true; four = true }

both_passed : (l m : Lengths) (x y : Index) → Valid l x → Valid m y → both (four_of l x) (four_of m y) ≡ passed
both_passed l m x y v w =
    λ i. record {
      one = each_of v.one w.one i;
      two = each_of v.two w.two i;
      three = each_of v.three w.three i;
      four = each_of v.four w.four i;
    }

same_slot : (x x' : Index) → Savable x → Savable x' → saved x ≡ saved x' → slot_of x ≡ slot_of x'
same_slot x x' s s' e = slot_saved x s ∙ ap (λ (c : List ℕ). (read_header c).slot) e ∙ sym (slot_saved x' s')

module _ (l m l' m' : Lengths) (x y x' y' : Index) (out : ℕ) (v : Valid l x) (w : Valid m y) (v' : Valid l' x')
    (w' : Valid m' y') where
  same_answer : sized x ≡ true → sized y ≡ true → sized x' ≡ true → sized y' ≡ true → saved x ≡ saved x' → saved y
      ≡ saved y'
      → save_both l x m y out ≡ save_both l' x' m' y' out
  unfolding save_both
  same_answer z c z' c' e f =
      let s = same_slot x x' (savable l x v z) (savable l' x' v' z') e in
      let t = same_slot y y' (savable m y w c) (savable m' y' w' c') f in
      rw (both_passed l m x y v w, both_passed l' m' x' y' v' w') (same_order passed out x y x' y' s t e f)

-- ---- whichever is given first
-- behind a 54 nothing matters
broken_bits : {A : Type 0} (a b c d q q' : Bool) (r r' : Answer A)
    → after (first_no (ask a 1 ∷ ask b 2 ∷ ask c 3 ∷ ask d 4 ∷ ask false 54 ∷ ask q 40 ∷ [])) r
    ≡ after (first_no (ask a 1 ∷ ask b 2 ∷ ask c 3 ∷ ask d 4 ∷ ask false 54 ∷ ask q' 40 ∷ [])) r'
unfolding first_no after
broken_bits false b c d q q' r r' = refl
broken_bits true false c d q q' r r' = refl
broken_bits true true false d q q' r r' = refl
broken_bits true true true false q q' r r' = refl
broken_bits true true true true q q' r r' = refl

-- lists of one slot
pub equal_slots : (x y : Index) → slot_of x ≡ slot_of y → entries_ok 0 (contents_of (x ∷ y ∷ [])) ≡ false
equal_slots x y e =
    test (entries_ok 0 (contents_of (x ∷ y ∷ [])))
    (λ h. let f = first→ 0 28 x (y ∷ []) h in let g = first→ (slot_of x + 1) (28 + saved_length x) y [] f.rest
    in let z : ⊥ = omega (arith, g.slot, e) in absurd z)
    (λ h. h)

pub and_comm : (a b : Bool) → (a && b) ≡ (b && a)
and_comm true true = refl
and_comm true false = refl
and_comm false true = refl
and_comm false false = refl

both_swap : (p q : Four) → both p q ≡ both q p
both_swap p q =
    λ i. record {
      one = and_comm p.one q.one i;
      two = and_comm p.two q.two i;
      three = and_comm p.three q.three i;
      four = and_comm p.four q.four i;
    }

broken : (p : Four) (xs ys : List Index) (out : ℕ) → entries_ok 0 (contents_of xs) ≡ false
    → entries_ok 0 (contents_of ys) ≡ false → save_lists p xs out ≡ save_lists p ys out
unfolding save_lists
broken p xs ys out h k =
    rw (h, k)
    (broken_bits p.one p.two p.three p.four (leb (disc_length xs) out) (leb (disc_length ys) out)
    (Accepted (disc_bytes xs)) (Accepted (disc_bytes ys)))

slots_apart : (x y : Index) → slot_of x < slot_of y → by_slot x y ≡ by_slot y x
unfolding by_slot
slots_apart x y h = rw (lt-ltb (slot_of x) (slot_of y) h, le-ltb (slot_of y) (slot_of x) (omega arith))

slots_same : (x y : Index) → slot_of x ≡ slot_of y → by_slot x y ≡ y ∷ x ∷ []
unfolding by_slot
slots_same x y h = rw (le-ltb (slot_of x) (slot_of y) (omega arith))

swap : (l m : Lengths) (x y : Index) (out : ℕ) → save_both l x m y out ≡ save_both m y l x out
unfolding save_both
swap l m x y out =
    let p = four_of l x in
    let q = four_of m y in
    ap (λ (r : Four). save_lists r (by_slot x y) out) (both_swap p q)
    ∙ order (slot_of x) (slot_of y) (λ h. ap (λ (xs : List Index). save_lists (both q p) xs out) (slots_apart x y h))
    (λ h. ap (λ (xs : List Index). save_lists (both q p) xs out) (sym (slots_apart y x h)))
    (λ h. ap (λ (xs : List Index). save_lists (both q p) xs out) (slots_same x y h)
    ∙ broken (both q p) (y ∷ x ∷ []) (x ∷ y ∷ []) out (equal_slots y x (sym h)) (equal_slots x y h)
    ∙ ap (λ (xs : List Index). save_lists (both q p) xs out) (sym (slots_same y x (sym h))))

pub one_disc_file : OneDiscFile
one_disc_file =
    record {
      same = same_answer;
      bytes = λ l m l' m' x y x' y' out out' b b' z c z' c' e f s t.
          let q = same_answer l m l' m' x y x' y' out (first_valid l x m y out b s) (second_valid l x m y out b s)
          (first_valid l' x' m' y' out' b' t) (second_valid l' x' m' y' out' b' t) z c z' c' e f in
          sym (both_saves l' x' m' y' out b (sym q ∙ s)).is ∙ (both_saves l' x' m' y' out' b' t).is;
      swapped = swap;
    }

-- ---- what is saved loads
loads_file : (l m : Lengths) (a0 a1 : Area) (limit : ℕ) (xs : List Index) (o0 o1 : Option Index) → Fit xs
    → slot_area 0 a0 ≡ true → slot_area 1 a1 ≡ true
    → load_body l a0 limit (saved_of 0 xs) ≡ Accepted o0 → load_body m a1 limit (saved_of 1 xs) ≡ Accepted o1
    → load_disc l m a0 a1 (disc_bytes xs) limit ≡ Accepted (disc o0 o1)
unfolding load_disc load_bodies
loads_file l m a0 a1 limit xs o0 o1 f p q h k =
    →asked (ask (slot_area 0 a0 && slot_area 1 a1) 1 ∷ ask (contents_ok (disc_bytes xs)) 54 ∷ [])
    (each_of p q, (table_ok xs f, tt))
    (→bind _ (ap (load_body l a0 limit) (body_is xs f 0) ∙ h)
    (→bind _ (ap (load_body m a1 limit) (body_is xs f 1) ∙ k) refl))

body_loads : (l : Lengths) (limit : ℕ) (x : Index) → Savable x → question3 l (limited limit x) ≡ true
    → load_body l x.scan.area limit (Some (saved x)) ≡ Accepted (Some (limited limit x))
unfolding load_body
body_loads l limit x s q = →bind _ (limited_load l limit x s q) refl

no_body : (l : Lengths) (a : Area) (limit : ℕ) → load_body l a limit None ≡ Accepted None
unfolding load_body
no_body l a limit = refl

own_area : (k : ℕ) (x : Index) → question1 x ≡ true → slot_of x ≡ k → slot_area k x.scan.area ≡ true
unfolding slot_area question1
own_area k x p e = each_of p (eq-eqb (slot_of x) k e)

pub both_load : BothLoad
unfolding by_slot saved_of
both_load l m l' m' x y out limit b z w p q e g h =
    let s = both_saves l x m y out b e in
    let v = savable l x (first_valid l x m y out b e) z in
    let u = savable m y (second_valid l x m y out b e) w in
    let lt : slot_of x < slot_of y = omega arith in
    let xs = x ∷ y ∷ [] in
    let order : by_slot x y ≡ xs = rw (lt-ltb (slot_of x) (slot_of y) lt) in
    let f : Fit xs = record {
      few = omega arith;
      some' = omega arith;
      slots = one {x = x} (omega arith) (one {x = y} (omega arith) nothing);
      rising = rw order at s.rising;
    } in
    let t0 : saved_of 0 xs ≡ Some (saved x) = rw (eq-eqb (slot_of x) 0 p) in
    let t1 : saved_of 1 xs ≡ Some (saved y) = rw (p, eq-eqb (slot_of y) 1 q) refl in
    ap (λ (c : List ℕ). load_disc l' m' x.scan.area y.scan.area c limit) (sym (ap disc_bytes (sym order) ∙ s.is))
    ∙ loads_file l' m' x.scan.area y.scan.area limit xs (Some (limited limit x)) (Some (limited limit y)) f
    (own_area 0 x v.one p) (own_area 1 y u.one q)
    (ap (load_body l' x.scan.area limit) t0 ∙ body_loads l' limit x v g)
    (ap (load_body m' y.scan.area limit) t1 ∙ body_loads m' limit y u h)

-- one list alone
module _ (l : Lengths) (x : Index) (out : ℕ) (b : List ℕ) (e : save_one l x out ≡ Accepted b) where
  one_saves : Saves (four_of l x) (x ∷ []) out b
  unfolding save_one
  one_saves = saves (four_of l x) (x ∷ []) out b e

  pub one_valid : Valid l x
  one_valid = let s = one_saves in record { one = s.one; two = s.two; three = s.three; four = s.four }

  one_fit : slot_of x ≤ 1 → Fit (x ∷ [])
  one_fit h = record {
    few = omega arith;
    some' = omega arith;
    slots = one {x = x} h nothing;
    rising = one_saves.rising;
  }

pub one_loads : OneLoads
unfolding saved_of
one_loads =
    record {
      first = λ l l' m' x a out limit b z p k e g.
          let v = savable l x (one_valid l x out b e) z in
          let f = one_fit l x out b e (omega arith) in
          let t0 : saved_of 0 (x ∷ []) ≡ Some (saved x) = rw (eq-eqb (slot_of x) 0 p) in
          let t1 : saved_of 1 (x ∷ []) ≡ None = rw p refl in
          ap (λ (c : List ℕ). load_disc l' m' x.scan.area a c limit) (sym (one_saves l x out b e).is)
          ∙ loads_file l' m' x.scan.area a limit (x ∷ []) (Some (limited limit x)) None f
          (own_area 0 x v.one p) k
          (ap (load_body l' x.scan.area limit) t0 ∙ body_loads l' limit x v g)
          (ap (load_body m' a limit) t1 ∙ no_body m' a limit);
      second = λ l l' m' y a out limit b z p k e g.
          let v = savable l y (one_valid l y out b e) z in
          let f = one_fit l y out b e (omega arith) in
          let t0 : saved_of 0 (y ∷ []) ≡ None = rw p refl in
          let t1 : saved_of 1 (y ∷ []) ≡ Some (saved y) = rw (eq-eqb (slot_of y) 1 p) in
          ap (λ (c : List ℕ). load_disc l' m' a y.scan.area c limit) (sym (one_saves l y out b e).is)
          ∙ loads_file l' m' a y.scan.area limit (y ∷ []) None (Some (limited limit y)) f k
          (own_area 1 y v.one p)
          (ap (load_body l' a limit) t0 ∙ no_body l' a limit)
          (ap (load_body m' y.scan.area limit) t1 ∙ body_loads m' limit y v g);
    }

-- under a limit that drops nothing
whole : (limit : ℕ) (l : Lengths) (x : Index) → Valid l x → Ample limit x → limited limit x ≡ stripped x
whole limit l x v a = large_limit limit x v.four a.budget a.hints

whole_room : (limit : ℕ) (l l' : Lengths) (x : Index) → Valid l x → Ample limit x → question3 l' x ≡ true
    → question3 l' (limited limit x) ≡ true
unfolding question3
whole_room limit l l' x v a r = ap (question3 l') (whole limit l x v a) ∙ r

pub disc_loads : DiscLoads
disc_loads =
    record {
      both = λ l m l' m' x y out limit b z w p q e g h a c.
          let v = first_valid l x m y out b e in
          let u = second_valid l x m y out b e in
          both_load l m l' m' x y out limit b z w p q e (whole_room limit l l' x v a g) (whole_room limit m m' y u c h)
          ∙ (λ i. Accepted (disc (Some (whole limit l x v a i)) (Some (whole limit m y u c i))));
      first = λ l l' m' x o out limit b z p k e g a.
          let v = one_valid l x out b e in
          one_loads.first l l' m' x o out limit b z p k e (whole_room limit l l' x v a g)
          ∙ (λ i. Accepted (disc (Some (whole limit l x v a i)) None));
      second = λ l l' m' y o out limit b z p k e g a.
          let v = one_valid l y out b e in
          one_loads.second l l' m' y o out limit b z p k e (whole_room limit l m' y v a g)
          ∙ (λ i. Accepted (disc None (Some (whole limit l y v a i))));
    }

-- ---- the bodies of a saved disc file
slot_of_lemma : (x : Index) → question1 x ≡ true → slot_of x ≤ 1
unfolding question1 area_ok
slot_of_lemma x h = leb-true (slot_of x) 1 (all→ _ h).0

own_slot : (x : Index) (xs : List Index) → saved_of (slot_of x) (x ∷ xs) ≡ Some (saved x)
unfolding saved_of
own_slot x xs = rw (eq-eqb (slot_of x) (slot_of x) refl)

other_slot : (k : ℕ) (x : Index) (xs : List Index) → k ≢ slot_of x → saved_of k (x ∷ xs) ≡ saved_of k xs
unfolding saved_of
other_slot k x xs h = rw (ne_eqb (slot_of x) k (λ z. h (sym z)))

-- of two lists whose slots rise
module _ (x y : Index) (h : entries_ok 0 (contents_of (x ∷ y ∷ [])) ≡ true) where
  apart : slot_of x < slot_of y
  apart =
      let f = first→ 0 28 x (y ∷ []) h in let g = first→ (slot_of x + 1) (28 + saved_length x) y [] f.rest in omega
      (arith, g.slot)

  second_slot : saved_of (slot_of y) (x ∷ y ∷ []) ≡ Some (saved y)
  second_slot = let l = apart in other_slot (slot_of y) x (y ∷ []) (λ z. omega arith) ∙ own_slot y []

by_slots : (x y : Index) → entries_ok 0 (contents_of (by_slot x y)) ≡ true
    → (saved_of (slot_of x) (by_slot x y) ≡ Some (saved x)) × (saved_of (slot_of y) (by_slot x y) ≡ Some (saved y))
unfolding by_slot
by_slots x y r =
    test (ltb (slot_of x) (slot_of y)) (λ h. rw h (own_slot x (y ∷ []), second_slot x y (rw h at r)))
    (λ h. rw h (second_slot y x (rw h at r), own_slot y (x ∷ [])))

by_slots_fit : (x y : Index) → slot_of x ≤ 1 → slot_of y ≤ 1 → entries_ok 0 (contents_of (by_slot x y)) ≡ true
    → Fit (by_slot x y)
unfolding by_slot
by_slots_fit x y p q r =
    test (ltb (slot_of x) (slot_of y))
    (λ h. rw h (record {
      few = omega arith;
      some' = omega arith;
      slots = one {x = x} p (one {x = y} q nothing);
      rising = rw h at r;
    }))
    (λ h. rw h (record {
      few = omega arith;
      some' = omega arith;
      slots = one {x = y} q (one {x = x} p nothing);
      rising = rw h at r;
    }))

list_file : (l : Lengths) (x : Index) (xs : List Index) (b : List ℕ) → Valid l x → Fit xs → disc_bytes xs ≡ b
    → saved_of (slot_of x) xs ≡ Some (saved x)
    → ListFile l x (body_in b (slot_of x))
list_file l x xs b v f e h =
    record {
      file = rw (← e) (body_is xs f (slot_of x) ∙ h);
      saves = λ out n. refuses_nothing.saves l x out v (omega (arith, (saved_length_is x).0));
    }

pub saved_bodies : SavedBodies
unfolding saved_of
saved_bodies =
    record {
      both = λ l m x y out b e.
          let s = both_saves l x m y out b e in
          let v = first_valid l x m y out b e in
          let w = second_valid l x m y out b e in
          let f = by_slots_fit x y (slot_of_lemma x v.one) (slot_of_lemma y w.one) s.rising in
          let k = by_slots x y s.rising in
          (list_file l x (by_slot x y) b v f s.is k.0, list_file m y (by_slot x y) b w f s.is k.1);
      one = λ l x out b e.
          let v = one_valid l x out b e in
          list_file l x (x ∷ []) b v (one_fit l x out b e (slot_of_lemma x v.one)) (one_saves l x out b e).is
          (own_slot x []);
      other = λ l x out b k e h.
          let f = one_fit l x out b e (slot_of_lemma x (one_valid l x out b e).one) in
          rw (← (one_saves l x out b e).is) (body_is (x ∷ []) f k ∙ other_slot k x [] h);
    }

-- ---- the bodies load by themselves
-- an accepted disc file
pub record Opened (l m : Lengths) (a0 a1 : Area) (b : List ℕ) (limit : ℕ) (d : Disc) : Type 0 where
  pub area0 : slot_area 0 a0 ≡ true
  pub area1 : slot_area 1 a1 ≡ true
  pub contents : contents_ok b ≡ true
  pub body0 : load_body l a0 limit (rules.body_at b (entry_of 0 (entries_in b))) ≡ Accepted d.slot0
  pub body1 : load_body m a1 limit (rules.body_at b (entry_of 1 (entries_in b))) ≡ Accepted d.slot1

pub opened : (l m : Lengths) (a0 a1 : Area) (b : List ℕ) (limit : ℕ) (d : Disc) → load_disc l m a0 a1 b limit
    ≡ Accepted d → Opened l m a0 a1 b limit d
unfolding load_disc load_bodies
opened l m a0 a1 b limit d e =
    let r = asked→ (ask (slot_area 0 a0 && slot_area 1 a1) 1 ∷ ask (contents_ok b) 54 ∷ []) _ d refl e in
    let u = bind→ (load_body l a0 limit (rules.body_at b (entry_of 0 (entries_in b)))) _ d r.1 in
    let v = bind→ (load_body m a1 limit (rules.body_at b (entry_of 1 (entries_in b)))) _ d u.second in
    let w : disc u.value v.value ≡ d = accepted_eq _ d v.second in
    record {
      area0 = and_left (slot_area 0 a0) (slot_area 1 a1) r.0.0;
      area1 = and_right (slot_area 0 a0) (slot_area 1 a1) r.0.0;
      contents = r.0.1.0;
      body0 = rw (← w) u.first;
      body1 = rw (← w) v.first;
    }

body_of_lemma : (l : Lengths) (a : Area) (limit : ℕ) (c : List ℕ) (o : Option Index) (t : Option (List ℕ)) → t ≡ Some c
    → load_body l a limit t ≡ Accepted o → Loads l a c limit o
unfolding load_body
body_of_lemma l a limit c o t e h =
    let k : bind (load l a c limit) (λ x. Accepted (Some x)) ≡ Accepted o = rw e at h in
    let u = bind→ (load l a c limit) (λ x. Accepted (Some x)) o k in
    record { list = u.value; loads = u.first; is = sym (accepted_eq (Some u.value) o u.second) }

no_list : (l : Lengths) (a : Area) (limit : ℕ) (o : Option Index) (t : Option (List ℕ)) → t ≡ None
    → load_body l a limit t ≡ Accepted o → o ≡ None
no_list l a limit o t e h = sym (accepted_eq None o (sym (ap (load_body l a limit) e ∙ no_body l a limit) ∙ h))

pub bodies_load : BodiesLoad
bodies_load =
    record {
      first = λ l m a0 a1 b limit d c e h. body_of_lemma l a0 limit c d.slot0 _ h (opened l m a0 a1 b limit d e).body0;
      second = λ l m a0 a1 b limit d c e h. body_of_lemma m a1 limit c d.slot1 _ h (opened l m a0 a1 b limit d e).body1;
      no_first = λ l m a0 a1 b limit d e h. no_list l a0 limit d.slot0 _ h (opened l m a0 a1 b limit d e).body0;
      no_second = λ l m a0 a1 b limit d e h. no_list m a1 limit d.slot1 _ h (opened l m a0 a1 b limit d e).body1;
    }
