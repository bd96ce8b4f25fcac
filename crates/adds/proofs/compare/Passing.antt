-- The passes over two tables of hints, and over two of confirmations. Assumes nothing.
use mathlib.Core.Path.{◌≡◌, refl, sym, ap, ◌∙◌}
use mathlib.Core.Bool.{Bool, true, false, ◌&&◌, not, cond}
use mathlib.Core.List.{List, [], ◌∷◌}
use Prim.Native.Nat.{ℕ, ◌+◌, ◌<◌, ◌≤◌, min}
use native.Mathlib.Omega.{arith}
use lib.Dec.{eqb, leb, ltb}
use lib.ListN.{length, get_or, drop, drop_of_length-le}
use borrow.Author.Tests.{leb-true, leb-false, eq-eqb, ne_eqb, not-true, not-false}
use Rattle.field.specs.Records.{record_at}
use Rattle.field.proofs.Records.{records_length}
use Rattle.rules.specs.declared.Confirmation.{Confirmation}
use Rattle.rules.specs.declared.Hint.{Hint}
use Rattle.rules.specs.Values.{max32, no_confirmation}
use Rattle.rules.specs.Tests.{all}
use Rattle.rules.specs.Sections.{confirmed_lsn}
use Rattle.rules.specs.Hints.{held_confirmation, unkept}
use Rattle.rules.proofs.Tests.{test, never}
use Rattle.rules.proofs.Same.{eqb_self}
use Rattle.laws.proofs.hint_lists.Hints.{joined_none}
use Rattle.tables.specs.Tables.{decode_kept, kept_in, unkept_in}
use Rattle.tables.proofs.Walk.{records_turn}
use Rattle.add_hints.proofs.Arriving.{unkept_in_lemma}
use Rattle.rules_lacks.specs.Lacks.{equal_hint}
use Rattle.rules_lacks.proofs.Laws.{equal_hint_self}
use Rattle.adds.specs.declared.compare.Turn.{Turn}
use Rattle.adds.specs.declared.compare.Weighed.{Weighed}
use Rattle.merge.specs.Keys.{from_key}
use Rattle.adds.specs.Adds.{same_confirmation}
use Rattle.adds.specs.Marks.{mark, mark_both, marked, marks_of, lsn_from, unweighed, weigh_one, weighed, changed_by}
use Rattle.adds.specs.Confirmed.{absorbed, unmoved_by, arriving, confirmed_change}
use Rattle.adds.specs.Answers.{LsnAt, Turned, HintsAnswered, ConfirmedAnswered}
use Rattle.adds.proofs.compare.Same.{same_list_self}
use Rattle.adds.proofs.compare.Marks.{next_new, next_held, next_both, lsn_unkept}
use Rattle.adds.proofs.compare.Hints.{hints_change}
use Rattle.adds.proofs.compare.Confirmed.{confirmed_change_lemma}

-- ---- the next of two lists of hints
module _ (n : ℕ) (t : List ℕ) where
  pub lsn_here : {h : Hint} (i : ℕ) → i < n → h ≡ record_at 8 decode_kept t i → h.lsn < 4294967296
      → LsnAt (kept_in n t) n i h.lsn
  unfolding lsn_from
  lsn_here {h} i l e f = record {
    is = sym (rw (records_turn 8 decode_kept n t i l, ← e));
    inside = λ k. omega arith;
    past = λ k. let z : ⊥ = omega arith in absurd z;
  }

  pub lsn_none : (i : ℕ) → n ≤ i → LsnAt (kept_in n t) n i (max32 + 1)
  unfolding lsn_from
  lsn_none i l = record {
    is = sym (ap lsn_from (drop_of_length-le (kept_in n t) (let k : length (kept_in n t) ≤ i = rw records_length l in k)));
    inside = λ k. let z : ⊥ = omega arith in absurd z;
    past = λ k. refl;
  }

-- the LSN is that of the hint without its mark
pub unkept_at : (n : ℕ) (t : List ℕ) {i r : ℕ} → LsnAt (kept_in n t) n i r → LsnAt (unkept_in n t) n i r
unkept_at n t {i} p = record {
  is = p.is ∙ sym (ap (λ (l : List Hint). lsn_from (drop i l)) (unkept_in_lemma n t) ∙ lsn_unkept i (kept_in n t));
  inside = p.inside;
  past = p.past;
}

module _ {xs ys : List Hint} {n m i j a b : ℕ} (p : LsnAt xs n i a) (q : LsnAt ys m j b) where
  -- the other list goes on where its LSN is lower
  pub other_inside : i ≤ n → b < a → j < m
  other_inside h l =
      test (leb m j)
      (λ e. let u = q.past (leb-true m j e) in
      let z : ⊥ =
      test (leb n i) (λ f. let v = p.past (leb-true n i f) in omega arith)
      (λ f. let v = p.inside (leb-false n i f) in omega arith) in absurd z)
      (λ e. leb-false m j e)

  -- else the own one does
  pub own_inside : j ≤ m → i + j < n + m → a ≤ b → i < n
  own_inside h g l =
      test (leb n i)
      (λ e. let u = p.past (leb-true n i e) in
      let z : ⊥ =
      test (leb m j) (λ f. let v = leb-true m j f in let w = leb-true n i e in omega arith)
      (λ f. let v = q.inside (leb-false m j f) in omega arith) in absurd z)
      (λ e. leb-false n i e)

  pub both_inside : i < n → b ≤ a → a ≤ b → j < m
  both_inside h l g =
      let u = p.inside h in
      test (leb m j) (λ f. let v = q.past (leb-true m j f) in let z : ⊥ = omega arith in absurd z)
      (λ f. leb-false m j f)

  module _ (hi : i ≤ n) (hj : j ≤ m) where
    pub turn_new : {y : Hint} → b < a → drop j ys ≡ y ∷ drop (j + 1) ys
        → Turned xs ys n m i j (record { new = true; replaced = false; hint = y; own = i; other = j + 1 })
    turn_new {y} l d =
        let k = other_inside hi l in
        let w : lsn_from (y ∷ drop (j + 1) ys) < lsn_from (drop i xs) = rw (← d, ← q.is, ← p.is) l in
        record {
          first = mark true y;
          next = ap (marked (drop i xs)) d ∙ next_new (drop i xs) y (drop (j + 1) ys) w;
          new = refl;
          replaced = refl;
          hint = refl;
          own = hi;
          other = omega arith;
          on = omega arith;
        }

    module _ {x : Hint} (k : i < n) (d : drop i xs ≡ x ∷ drop (i + 1) xs) where
      pub turn_held : a < b
          → Turned xs ys n m i j (record { new = false; replaced = false; hint = x; own = i + 1; other = j })
      turn_held l =
          let w : lsn_from (x ∷ drop (i + 1) xs) < lsn_from (drop j ys) = rw (← d, ← q.is, ← p.is) l in
          record {
            first = mark false x;
            next = ap (λ (z : List Hint). marked z (drop j ys)) d ∙ next_held x (drop (i + 1) xs) (drop j ys) w;
            new = refl;
            replaced = refl;
            hint = refl;
            own = omega arith;
            other = hj;
            on = omega arith;
          }

      pub turn_both : {y : Hint} → drop j ys ≡ y ∷ drop (j + 1) ys → b ≤ a → a ≤ b
          → Turned xs ys n m i j
          (record { new = false; replaced = not (eqb x.number y.number); hint = x; own = i + 1; other = j + 1 })
      turn_both {y} c l g =
          let z : a ≡ b = omega arith in
          let f = both_inside k l g in
          let w : lsn_from (x ∷ drop (i + 1) xs) ≡ lsn_from (y ∷ drop (j + 1) ys) =
          sym (ap lsn_from d) ∙ sym p.is ∙ z ∙ q.is ∙ ap lsn_from c in
          record {
            first = mark_both x y;
            next =
                ap (λ (u : List Hint). marked u (drop j ys)) d ∙ ap (marked (x ∷ drop (i + 1) xs)) c
                ∙ next_both x y (drop (i + 1) xs) (drop (j + 1) ys) w;
            new = refl;
            replaced = refl;
            hint = refl;
            own = omega arith;
            other = omega arith;
            on = omega arith;
          }

-- ---- all of them
pub record Weighing (xs ys : List Hint) (n m : ℕ) (s : Weighed) (i j : ℕ) : Type 0 where
  pub own : i ≤ n
  pub other : j ≤ m
  pub few : s.place ≤ i + j
  pub rest : weighed s (marked (drop i xs) (drop j ys)) ≡ weighed unweighed (marked xs ys)

pub weigh_start : {s : Weighed} (xs ys : List Hint) (n m : ℕ) → s ≡ unweighed → Weighing xs ys n m s 0 0
weigh_start xs ys n m e = record { own = omega arith; other = omega arith; few = rw e (omega arith); rest = rw e }

weigh_place : (s : Weighed) (b c : Bool) (k : Hint) → (weigh_one s b c k).place ≡ s.place + 1
unfolding weigh_one
weigh_place s b c k = refl

pub weigh_on : {xs ys : List Hint} {n m i j : ℕ} {s s' : Weighed} {r : Turn} → Weighing xs ys n m s i j
    → Turned xs ys n m i j r → s' ≡ weigh_one s r.new r.replaced r.hint
    → Weighing xs ys n m s' r.own r.other
unfolding weighed
weigh_on {xs} {ys} {n} {m} {i} {j} {s} {s'} {r} w t e =
    let f = w.few in let o = t.on in let q = weigh_place s r.new r.replaced r.hint in
    let z = sym (ap (weighed s) t.next) ∙ w.rest in
    let y : weighed (weigh_one s r.new r.replaced r.hint) (marked (drop r.own xs) (drop r.other ys))
    ≡ weighed unweighed (marked xs ys) =
    rw (t.new, t.replaced, t.hint) at z in
    record { own = t.own; other = t.other; few = rw e (omega arith); rest = rw e y }

pub weigh_end : {xs ys : List Hint} {n m i j : ℕ} {s : Weighed} → length xs ≡ n → length ys ≡ m
    → Weighing xs ys n m s i j → n + m ≤ i + j → s ≡ weighed unweighed (marked xs ys)
unfolding weighed marked marks_of
weigh_end {xs} {ys} {n} {m} {i} {j} {s} f g w l =
    let o = w.own in let p = w.other in
    let x : drop i xs ≡ [] = drop_of_length-le xs (let k : length xs ≤ i = omega arith in k) in
    let y : drop j ys ≡ [] = drop_of_length-le ys (let k : length ys ≤ j = omega arith in k) in
    rw (x, y) at w.rest

module _ {most : ℕ} (xs ys : List Hint) where
  pub hints_none : most ≡ 0 → HintsAnswered most xs ys false
  hints_none e a h g = sym (rw (e, joined_none a xs (unkept ys), same_list_self equal_hint equal_hint_self xs))

  pub hints_answered : {w : Weighed} {r : Bool} {n : ℕ} {zs : List Hint} → length xs ≡ n → n ≤ most → (most ≡ 0 → ⊥)
      → w ≡ weighed unweighed (marked xs zs) → zs ≡ unkept ys → r ≡ changed_by w n most → HintsAnswered most xs ys r
  hints_answered {w} {r} {n} k l z e d f a h g =
      f ∙ rw (e, d, ← k) (sym (hints_change a xs ys h g most (omega arith) (omega (arith, z))))

-- ---- confirmations
pub stays_is : (c d : Confirmation)
    → (eqb c.digest d.digest && leb c.threshold d.threshold) ≡ same_confirmation c (held_confirmation c d)
unfolding same_confirmation held_confirmation all
stays_is c d =
    test (eqb c.digest d.digest)
    (λ e. rw (e, eqb_self c.lsn, eqb_self c.digest)
    (test (leb c.threshold d.threshold)
    (λ f. let l = leb-true c.threshold d.threshold f in let z : min c.threshold
    d.threshold ≡ c.threshold = omega arith in rw (f, z, eqb_self c.threshold))
    (λ f. let l = leb-false c.threshold d.threshold f in rw
    (f, ne_eqb c.threshold (min c.threshold d.threshold) (λ z. omega arith)))))
    (λ e. rw (e, e) (test (eqb c.lsn d.lsn)
    (λ f. rw f (test (eqb c.threshold d.threshold) (λ g. rw g) (λ g. rw g))) (λ f. rw f)))

-- a turn of the pass: i and j are passed, and the answer is to be r
pub record Absorbing (cs ds : List Confirmation) (r : Bool) (n m i j : ℕ) : Type 0 where
  pub own : i ≤ n
  pub other : j ≤ m
  pub rest : absorbed (drop i cs) (drop j ds) ≡ r

module _ {cs ds : List Confirmation} {r : Bool} {n m i j : ℕ} (w : Absorbing cs ds r n m i j) where
  pub absorb_end : length ds ≡ m → m ≤ j → true ≡ r
  unfolding absorbed
  absorb_end g l =
      let y : drop j ds ≡ [] = drop_of_length-le ds (let k : length ds ≤ j = omega arith in k) in
      rw y at w.rest

  module _ {d : Confirmation} (q : drop j ds ≡ d ∷ drop (j + 1) ds) where
    pub absorb_short : length cs ≡ n → n ≤ i → false ≡ r
    unfolding absorbed
    absorb_short f l =
        let x : drop i cs ≡ [] = drop_of_length-le cs (let k : length cs ≤ i = omega arith in k) in
        rw (x, q) at w.rest

    module _ {c : Confirmation} (p : drop i cs ≡ c ∷ drop (i + 1) cs) where
      pub absorb_moved : {u : Bool} → u ≡ unmoved_by c d → not u ≡ true → false ≡ r
      unfolding unmoved_by absorbed
      absorb_moved {u} e f =
          let g : unmoved_by c d ≡ false = sym e ∙ not-true u f in
          let z = rw (p, q) at w.rest in
          test (ltb c.lsn d.lsn) (λ a. never {b = true} refl (rw a at g))
          (λ a. test (ltb d.lsn c.lsn) (λ b. rw (a, b) at z)
          (λ b. let h : same_confirmation c (held_confirmation c d) ≡ false = rw (a, b) at g in rw (a, b, h) at z))

      pub absorb_on : {u : Bool} {k : ℕ} → i < n → j < m → u ≡ unmoved_by c d → not u ≡ false
          → k ≡ cond (ltb c.lsn d.lsn) j (j + 1) → Absorbing cs ds r n m (i + 1) k
      unfolding unmoved_by absorbed
      absorb_on {u} {k} li lj e f g =
          let h : unmoved_by c d ≡ true = sym e ∙ not-false u f in
          let z = rw (p, q) at w.rest in
          test (ltb c.lsn d.lsn)
          (λ a. let y : k ≡ j = rw a at g in
          record { own = omega arith; other = omega arith; rest = rw (y, q) (rw a at z) })
          (λ a. let y : k ≡ j + 1 = rw a at g in
          test (ltb d.lsn c.lsn) (λ b. never {b = false} (rw (a, b) at h) refl)
          (λ b. let t : same_confirmation c (held_confirmation c d) ≡ true = rw (a, b) at h in
          record { own = omega arith; other = omega arith; rest = rw y (rw (a, b, t) at z) }))

module _ (most n : ℕ) (cs ds : List Confirmation) (k : length cs ≡ n) where
  pub arriving_all : (n ≡ most → ⊥) → ds ≡ arriving most cs ds
  unfolding arriving
  arriving_all h = sym (rw (k, ne_eqb n most h))

  pub arriving_low : {c : Confirmation} {x : List Confirmation} → n ≡ most → 1 ≤ most → drop 0 cs ≡ c ∷ drop 1 cs
      → x ≡ from_key confirmed_lsn c.lsn ds → x ≡ arriving most cs ds
  unfolding arriving
  arriving_low {c} h l p e =
      let z : get_or cs 0 no_confirmation ≡ c = ap (λ (y : List Confirmation). get_or y 0 no_confirmation) p in
      e ∙ sym (rw (k, eq-eqb n most h, z))

module _ (checked : Bool) {most n : ℕ} (cs ds : List Confirmation) (k : length cs ≡ n) (l : n ≤ most) where
  answered_by : {r : Bool} → r ≡ confirmed_change checked most cs ds → ConfirmedAnswered checked most cs ds r
  answered_by e a h g = e ∙ sym (confirmed_change_lemma a checked most cs ds h g (omega arith))

  pub confirmed_unchecked : not checked ≡ true → ConfirmedAnswered checked most cs ds false
  unfolding confirmed_change
  confirmed_unchecked e = answered_by (sym (rw e))

  pub confirmed_none : most ≡ 0 → ConfirmedAnswered checked most cs ds false
  unfolding confirmed_change
  confirmed_none e = answered_by (sym (test checked (λ f. rw (f, e)) (λ f. rw f)))

  pub confirmed_some : {from : List Confirmation} {u : Bool} → not checked ≡ false → (most ≡ 0 → ⊥)
      → from ≡ arriving most cs ds → u ≡ absorbed cs from → ConfirmedAnswered checked most cs ds (not u)
  unfolding confirmed_change
  confirmed_some e z f g = answered_by (sym (rw (e, ne_eqb most 0 z, ← f, ← g)))
