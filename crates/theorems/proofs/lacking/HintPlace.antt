-- The hint to begin at, where nothing is lacking. Assumes nothing.
use Rattle.std.specs.Prelude.{Option, None, Some}
use mathlib.Core.Path.{◌≡◌, refl, sym, ap, subst, ◌∙◌}
use mathlib.Core.Bool.{Bool, true, false, ◌&&◌, ◌||◌}
use mathlib.Core.Logic.{⊎_elim, ◌⊎◌, inl, inr}
use mathlib.Core.List.{List, [], ◌∷◌}
use Prim.Native.Nat.{ℕ, zero, suc, ◌-◌, ◌<◌, ◌≤◌}
use native.Mathlib.Nat.{eq-or-lt_of_le}
use native.Mathlib.Omega.{arith}
use lib.Dec.{eqb, leb, ltb}
use lib.ListN.{length, get_or}
use borrow.Author.Tests.{eqb-true, eq-eqb, ltb-true, ltb-false, leb-true, le-leb}
use Rattle.rules.specs.declared.Area.{Area}
use Rattle.rules.specs.declared.Confirmation.{Confirmation}
use Rattle.rules.specs.declared.Hint.{Hint}
use Rattle.rules.specs.Tests.{is_some, or_else, Accepted, ask, first_no}
use Rattle.rules.specs.Values.{Index, hint_reach, no_hint, no_confirmation, is_checked}
use Rattle.rules.specs.Questions.{four, question1, question2, question3, question4}
use Rattle.rules.specs.Hints.{unkept_hint, larger, larger_of, largest_of, near, confirmed_at, hint_place, Hinted, hinted_locally, hinted_later, hinted_at, hint}
use Rattle.rules.proofs.Tests.{test, never, choose, both, and_left, and_right, or_cases, or_left, or_right, asked, asks, accepted→, →after, some_eq, none_some}
use Rattle.theorems.specs.Hints.{Stands}
use Rattle.theorems.specs.Lacks.{Serves, HintServes, LacksHint}
use Rattle.theorems.proofs.Useful.{largest_found}
use Rattle.theorems.proofs.lacking.Trans.{lacks→}
use Rattle.theorems.proofs.lacking.Serves.{nothing_lacking}

cases : {A : Type 0} (P : Type 0) (o : Option A) → (o ≡ None → P) → ((a : A) → o ≡ Some a → P) → P
cases P None f g = f refl
cases P (Some a) f g = g a refl

none_is : {A : Type 0} (o : Option A) → o ≡ None → is_some o ≡ true → ⊥
unfolding is_some
none_is o e s = never {b = false} (rw e at s) refl

some_of : {A : Type 0} (P : Type 0) (o : Option A) → is_some o ≡ true → ((a : A) → o ≡ Some a → P) → P
unfolding is_some
some_of P None s f = never {b = false} s refl
some_of P (Some a) s f = f a refl

or_none : {A : Type 0} {a : A} (o p : Option A) → o ≡ None → p ≡ Some a → or_else o p ≡ Some a
unfolding or_else
or_none o p e d = rw e d

or_some : {A : Type 0} {a : A} (o p : Option A) → o ≡ Some a → or_else o p ≡ Some a
unfolding or_else
or_some o p e = rw e

or→ : {A : Type 0} {a : A} (o p : Option A) → or_else o p ≡ Some a → (o ≡ Some a) ⊎ (p ≡ Some a)
unfolding or_else
or→ None p e = inr e
or→ (Some b) p e = inl e

-- ---- the order of (number, LSN)
not_above : (a b c d : ℕ) → (ltb a b || (eqb a b && ltb c d)) ≡ false → (b < a) ⊎ ((b ≡ a) × (d ≤ c))
not_above a b c d e =
    test (ltb a b) (λ w. never (or_left (eqb a b && ltb c d) w) e)
    (λ w.
    let l = ltb-false a b w in
    ⊎_elim
    (λ (s : b ≡ a).
    test (ltb c d) (λ v. never (or_right (ltb a b) (both (eq-eqb a b (sym s)) v)) e)
    (λ v. let k = ltb-false c d v in inr (s, k)))
    (λ (s : b < a). inl s) (eq-or-lt_of_le l))

above : (a b c d : ℕ) → (ltb a b || (eqb a b && ltb c d)) ≡ true → (a < b) ⊎ ((a ≡ b) × (c < d))
above a b c d e =
    ⊎_elim (λ w. inl (ltb-true a b w)) (λ w. inr
    (eqb-true a b (and_left (eqb a b) (ltb c d) w), ltb-true c d (and_right (eqb a b) (ltb c d) w)))
    (or_cases (ltb a b) (eqb a b && ltb c d) e)

not_above_on : (a b c x y z : ℕ) → (a < b) ⊎ ((a ≡ b) × (x < y)) → (c < a) ⊎ ((c ≡ a) × (z ≤ x))
    → (c < b) ⊎ ((c ≡ b) × (z ≤ y))
not_above_on a b c x y z p q =
    ⊎_elim (λ (w : a < b). inl (⊎_elim (λ (v : c < a). let r : c < b = omega arith in r)
    (λ v. let s = v.0 in let r : c < b = omega arith in r) q))
    (λ w. let s = w.0 in let t = w.1 in ⊎_elim (λ (v : c < a). inl (let r : c < b = omega arith in r))
    (λ v. let m = v.0 in let n = v.1 in inr (let r : c ≡ b = omega arith in r, let r : z ≤ y = omega arith in r)) q)
    p

-- ---- the largest of those that p holds of
module _ (p : ℕ → Bool) (hs : List Hint) where
  abbrev NotBelow : ℕ → ℕ → Type 0
  NotBelow k i =
      ((get_or hs i no_hint).number < (get_or hs k no_hint).number) ⊎
      (((get_or hs i no_hint).number ≡ (get_or hs k no_hint).number) × ((get_or hs i no_hint).lsn ≤ (get_or hs k no_hint).lsn))

  self : (k : ℕ) → NotBelow k k
  self k = inr (refl, omega arith)

  larger_no : (k i : ℕ) → larger hs k i ≡ false → NotBelow k i
  unfolding larger
  larger_no k i e = not_above (get_or hs k no_hint).number (get_or hs i no_hint).number (get_or hs k no_hint).lsn
      (get_or hs i no_hint).lsn e

  larger_on : (m n i : ℕ) → larger hs m n ≡ true → NotBelow m i → NotBelow n i
  unfolding larger
  larger_on m n i e h =
      not_above_on (get_or hs m no_hint).number (get_or hs n no_hint).number (get_or hs i no_hint).number
      (get_or hs m no_hint).lsn (get_or hs n no_hint).lsn (get_or hs i no_hint).lsn
      (above (get_or hs m no_hint).number (get_or hs n no_hint).number (get_or hs m no_hint).lsn (get_or hs n no_hint).lsn e) h

  abbrev Most : ℕ → ℕ → Type 0
  Most n k = (i : ℕ) → i < n → p i ≡ true → NotBelow k i

  last_or : {P : Type 0} (i n : ℕ) → i < suc n → (i ≡ n → P) → (i < n → P) → P
  last_or i n l f g = ⊎_elim f g (eq-or-lt_of_le (let h : i ≤ n = omega arith in h))

  step : (n : ℕ) (o : Option ℕ) → ((i : ℕ) → i < n → p i ≡ true → is_some o ≡ true)
      → ((m : ℕ) → o ≡ Some m → Most n m) → (k : ℕ) → Some (larger_of hs o n) ≡ Some k
      → Most (suc n) k
  unfolding larger_of is_some
  step n None found most k e i l y =
      let q : n ≡ k = some_eq e in
      last_or i n l (λ z. subst (λ (v : ℕ). NotBelow v i) q (subst (λ (v : ℕ). NotBelow n v) (sym z) (self n)))
      (λ z. never {b = false} (found i z y) refl)
  step n (Some m) found most k e i l y =
      test (larger hs m n)
      (λ w.
      let q : n ≡ k = some_eq (rw w at e) in
      last_or i n l (λ z. subst (λ (v : ℕ). NotBelow v i) q (subst (λ (v : ℕ). NotBelow n v) (sym z) (self n)))
      (λ z. subst (λ (v : ℕ). NotBelow v i) q (larger_on m n i w (most m refl i z y))))
      (λ w.
      let q : m ≡ k = some_eq (rw w at e) in
      last_or i n l (λ z. subst (λ (v : ℕ). NotBelow v i) q (subst (λ (v : ℕ). NotBelow m v) (sym z) (larger_no m n w)))
      (λ z. subst (λ (v : ℕ). NotBelow v i) q (most m refl i z y)))

  largest_most : (n k : ℕ) → largest_of p hs n ≡ Some k → Most n k
  unfolding largest_of
  largest_most zero k e = λ i l y. let z : ⊥ = omega arith in absurd z
  largest_most (suc n) k e =
      test (p n) (λ w. step n (largest_of p hs n) (λ i l y. largest_found p hs n i l y) (λ m d. largest_most n m d) k
      (rw w at e))
      (λ w i l y. last_or i n l (λ z. never (ap p (sym z) ∙ y) w) (λ z. largest_most n k (rw w at e) i z y))

  larger_passes : (k : ℕ) (o : Option ℕ) (i : ℕ) → ((m : ℕ) → o ≡ Some m → p m ≡ true) → p k ≡ true
      → Some (larger_of hs o k) ≡ Some i → p i ≡ true
  unfolding larger_of
  larger_passes k None i h y e = ap p (sym (some_eq e)) ∙ y
  larger_passes k (Some m) i h y e =
      test (larger hs m k) (λ w. let q : k ≡ i = some_eq (rw w at e) in ap p (sym q) ∙ y)
      (λ w. let q : m ≡ i = some_eq (rw w at e) in ap p (sym q) ∙ h m refl)

  passes : (n i : ℕ) → largest_of p hs n ≡ Some i → p i ≡ true
  unfolding largest_of
  passes zero i e = none_some e
  passes (suc n) i e = test (p n) (λ y. larger_passes n (largest_of p hs n) i (λ m d. passes n m d) y (rw y at e))
      (λ y. passes n i (rw y at e))

  within : (n i : ℕ) → largest_of p hs n ≡ Some i → i < n
  unfolding largest_of larger_of
  within zero i e = none_some e
  within (suc n) i e =
      test (p n)
      (λ y.
      let d = rw y at e in
      cases (i < suc n) (largest_of p hs n) (λ q. let w : n ≡ i = some_eq (rw q at d) in omega arith)
      (λ m q.
      let l = within n m q in let b = rw q at d in
      test (larger hs m n) (λ v. let w : n ≡ i = some_eq (rw v at b) in omega arith)
      (λ v. let w : m ≡ i = some_eq (rw v at b) in omega arith)))
      (λ y. let l = within n i (rw y at e) in omega arith)

-- ---- confirmations
record ConfirmedBy (cs : List Confirmation) (lsn first : ℕ) : Type 0 where
  place : ℕ
  inside : place < length cs
  at : (get_or cs place no_confirmation).lsn ≡ lsn
  threshold : (get_or cs place no_confirmation).threshold ≤ first

confirmed→ : (cs : List Confirmation) (lsn first : ℕ) → confirmed_at cs lsn first ≡ true → ConfirmedBy cs lsn first
unfolding confirmed_at
confirmed→ [] lsn first e = never {b = false} e refl
confirmed→ (c ∷ cs) lsn first e =
    ⊎_elim
    (λ w. record {
      place = 0;
      inside = omega arith;
      at = eqb-true c.lsn lsn (and_left (eqb c.lsn lsn) (leb c.threshold first) w);
      threshold = leb-true c.threshold first (and_right (eqb c.lsn lsn) (leb c.threshold first) w);
    })
    (λ w. let r = confirmed→ cs lsn first w in let l = r.inside in record
    { place = suc r.place; inside = omega arith; at = r.at; threshold = r.threshold })
    (or_cases (eqb c.lsn lsn && leb c.threshold first) (confirmed_at cs lsn first) e)

→confirmed : (cs : List Confirmation) (lsn first i : ℕ) → i < length cs → (get_or cs i no_confirmation).lsn ≡ lsn
    → (get_or cs i no_confirmation).threshold ≤ first → confirmed_at cs lsn first ≡ true
unfolding confirmed_at
→confirmed [] lsn first i l e h = let z : ⊥ = omega arith in absurd z
→confirmed (c ∷ cs) lsn first zero l e h = or_left (confirmed_at cs lsn first)
    (both (eq-eqb c.lsn lsn e) (le-leb c.threshold first h))
→confirmed (c ∷ cs) lsn first (suc i) l e h = or_right (eqb c.lsn lsn && leb c.threshold first)
    (→confirmed cs lsn first i (omega arith) e h)

-- ---- the place to begin at
module _ (own other : Index) (s : Serves own other)
    (mark : is_checked other.fingerprint ≡ true → is_checked own.fingerprint ≡ true) (first : ℕ) where
  abbrev hs : List Hint
  hs = own.hinting.hints

  abbrev gs : List Hint
  gs = other.hinting.hints

  abbrev confirms : Index → ℕ → Bool
  confirms x lsn = is_checked x.fingerprint && confirmed_at x.hinting.confirmed lsn first

  confirms_on : (lsn : ℕ) → confirms other lsn ≡ true → confirms own lsn ≡ true
  confirms_on lsn e =
      let c = confirmed→ other.hinting.confirmed lsn first
      (and_right (is_checked other.fingerprint) (confirmed_at other.hinting.confirmed lsn first) e) in
      let d = s.confirmed c.place c.inside in let l = d.threshold in let m = c.threshold in
      both (mark (and_left (is_checked other.fingerprint) (confirmed_at other.hinting.confirmed lsn first) e))
      (→confirmed own.hinting.confirmed lsn first d.place d.inside (d.lsn ∙ c.at) (omega arith))

  abbrev near_at : Index → ℕ → Bool
  near_at x i = near first (get_or x.hinting.hints i no_hint)

  abbrev best_at : Index → ℕ → Bool
  best_at x i = near_at x i && confirms x (get_or x.hinting.hints i no_hint).lsn

  abbrev NotLess : Hint → Hint → Type 0
  NotLess a b = (b.number < a.number) ⊎ ((b.number ≡ a.number) × (b.lsn ≤ a.lsn))

  record PlaceServes (k i : ℕ) : Type 0 where
    confirmed : confirms other (get_or gs i no_hint).lsn ≡ true → (confirms own (get_or hs k no_hint).lsn ≡ true)
        × NotLess (get_or hs k no_hint) (get_or gs i no_hint)
    number : (confirms own (get_or hs k no_hint).lsn ≡ true) ⊎ NotLess (get_or hs k no_hint) (get_or gs i no_hint)

  -- the own place of a hint of the other
  module _ (i : ℕ) (l : i < length gs) (n : near_at other i ≡ true) where
    abbrev same : Stands hs (get_or gs i no_hint)
    same = s.hints (get_or gs i no_hint) (record { place = i; inside = l; holds = refl })

    abbrev j : ℕ
    j = same.place

    near_like : (h k : Hint) → unkept_hint h ≡ unkept_hint k → near first h ≡ true → near first k ≡ true
    unfolding near
    near_like h k e p = subst (λ (z : Hint). near first z ≡ true) e p

    near_own : near_at own j ≡ true
    near_own = near_like (get_or gs i no_hint) (get_or hs j no_hint) (sym same.holds) n

    best_own : confirms other (get_or gs i no_hint).lsn ≡ true → best_at own j ≡ true
    best_own c = both near_own (subst (λ (h : Hint). confirms own h.lsn ≡ true) (sym same.holds)
        (confirms_on (get_or gs i no_hint).lsn c))

    not_less : (p : ℕ → Bool) (k : ℕ) → largest_of p hs (length hs) ≡ Some k → p j ≡ true
        → NotLess (get_or hs k no_hint) (get_or gs i no_hint)
    not_less p k e h = subst (λ (z : Hint). NotLess (get_or hs k no_hint) z) same.holds
        (largest_most p hs (length hs) k e j same.inside h)

    place_on : (k : ℕ) × (hint_place (is_checked own.fingerprint) hs own.hinting.confirmed first ≡ Some k)
        × PlaceServes k i
    unfolding hint_place
    place_on =
        cases ((k : ℕ) × (hint_place (is_checked own.fingerprint) hs own.hinting.confirmed first ≡ Some k)
        × PlaceServes k i) (largest_of (best_at own) hs (length hs))
        (λ e.
        some_of _ (largest_of (near_at own) hs (length hs))
        (largest_found (near_at own) hs (length hs) j same.inside near_own)
        (λ k d. (
          k,
          or_none (largest_of (best_at own) hs (length hs)) (largest_of (near_at own) hs (length hs)) e d,
          record {
            confirmed = λ c. absurd (none_is (largest_of (best_at own) hs (length hs)) e
                (largest_found (best_at own) hs (length hs) j same.inside (best_own c)));
            number = inr (not_less (near_at own) k d near_own);
          },
        )))
        (λ k e.
        let c = and_right (near_at own k) (confirms own (get_or hs k no_hint).lsn)
        (passes (best_at own) hs (length hs) k e) in (
          k,
          or_some (largest_of (best_at own) hs (length hs)) (largest_of (near_at own) hs (length hs)) e,
          record { confirmed = λ d. (c, not_less (best_at own) k e (best_own d)); number = inl c },
        ))

  -- the other's place is one of its list, and near
  placed : (i : ℕ) → hint_place (is_checked other.fingerprint) gs other.hinting.confirmed first ≡ Some i
      → (i < length gs) × (near_at other i ≡ true)
  unfolding hint_place
  placed i e =
      ⊎_elim (λ d. (
        within (best_at other) gs (length gs) i d,
        and_left (near_at other i) (confirms other (get_or gs i no_hint).lsn) (passes (best_at other) gs (length gs) i d),
      ))
      (λ d. (within (near_at other) gs (length gs) i d, passes (near_at other) gs (length gs) i d))
      (or→ (largest_of (best_at other) gs (length gs)) (largest_of (near_at other) gs (length gs)) e)

-- ---- the answer begins at its place
begins : (o : Option Hint) (end : ℕ) (h : Hint) (r : Hinted) → r.lsn ≡ h.lsn → r.number ≡ h.number
    → ((hinted_later o end h r).lsn ≡ h.lsn) × ((hinted_later o end h r).number ≡ h.number)
unfolding hinted_later
begins None end h r p q = (p, q)
begins (Some s) end h r p q =
    choose (λ (z : Hinted). (z.lsn ≡ h.lsn) × (z.number ≡ h.number)) (leb (s.number - end) hint_reach) _ r
    (λ w. (refl, refl)) (λ w. (p, q))

hinted_at_lemma : (a : Area) (hs : List Hint) (end playtime i : ℕ) → (r : Hinted)
    × (hinted_at a hs end playtime (Some i) ≡ Some r) × (r.lsn ≡ (get_or hs i no_hint).lsn)
    × (r.number ≡ (get_or hs i no_hint).number)
unfolding hinted_at hinted_locally
hinted_at_lemma a hs end playtime i =
    let b = begins _ end (get_or hs i no_hint) (hinted_locally a hs i end playtime) refl refl in (_, refl, b.0, b.1)

hinted_from : (a : Area) (hs : List Hint) (end playtime : ℕ) (o : Option ℕ) (b : Hinted)
    → hinted_at a hs end playtime o ≡ Some b
    → (i : ℕ) × (o ≡ Some i) × (b.lsn ≡ (get_or hs i no_hint).lsn) × (b.number ≡ (get_or hs i no_hint).number)
unfolding hinted_at
hinted_from a hs end playtime None b e = none_some e
hinted_from a hs end playtime (Some i) b e =
    let r = hinted_at_lemma a hs end playtime i in let q : r.0 ≡ b = some_eq (sym r.1 ∙ e) in
    (i, refl, ap (λ (z : Hinted). z.lsn) (sym q) ∙ r.2, ap (λ (z : Hinted). z.number) (sym q) ∙ r.3)

-- ---- all of it
served : (own other : Index) (first k i : ℕ) (s : Serves own other)
    (mark : is_checked other.fingerprint ≡ true → is_checked own.fingerprint ≡ true) (a b : Hinted)
    → a.lsn ≡ (get_or own.hinting.hints k no_hint).lsn → a.number ≡ (get_or own.hinting.hints k no_hint).number
    → b.lsn ≡ (get_or other.hinting.hints i no_hint).lsn
    → b.number ≡ (get_or other.hinting.hints i no_hint).number → PlaceServes own other s mark first k i
    → HintServes own other first a b
served own other first k i s mark a b al an bl bn h =
    record { confirmed = rw (al, an, bl, bn) h.confirmed; number = rw (al, an, bl, bn) h.number }

pub lacks_hint : LacksHint
unfolding hint
lacks_hint l m own other x e h mark first end playtime b d =
    let p = (lacks→ l m own other x e h).0 in let s = nothing_lacking l m own other x e h in
    let r = accepted→ (first_no (four m other (ask (leb first end) 16 ∷ []))) _ (Some b) d in
    let q = asked (four m other (ask (leb first end) 16 ∷ [])) refl r.0 in
    let f = hinted_from other.scan.area other.hinting.hints end playtime _ b r.1 in
    let n = placed own other s mark first f.0 f.1 in
    let g = place_on own other s mark first f.0 n.0 n.1 in
    let a = hinted_at_lemma own.scan.area own.hinting.hints end playtime g.0 in (
      a.0,
      →after
          (asks (four l own (ask (leb first end) 16 ∷ [])) (
            and_left (question1 own) (question1 other) p.one,
            (
              and_left (question2 own) (question2 other) p.two,
              (
                and_left (question3 l own) (question3 m other) p.three,
                (and_left (question4 own) (question4 other) p.four, (q.1.1.1.1.0, tt)),
              ),
            ),
          ))
          (ap Accepted (ap (hinted_at own.scan.area own.hinting.hints end playtime) g.1 ∙ a.1)),
      served own other first g.0 f.0 s mark a.0 b a.2 a.3 f.2 f.3 g.2,
    )
