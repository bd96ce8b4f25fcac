-- What one pass over the marked list finds: whether thinning drops exactly the new hints. Assumes nothing.
use mathlib.Core.Path.{◌≡◌, refl, sym, ap, subst, ◌∙◌}
use mathlib.Core.Bool.{Bool, true, false, ◌||◌, not}
use mathlib.Core.Logic.{◌⊎◌, inl, inr, ⊎_elim}
use mathlib.Core.List.{List, [], ◌∷◌}
use Prim.Native.Nat.{ℕ, zero, suc, ◌+◌, ◌-◌, ◌<◌, ◌≤◌}
use native.Mathlib.Omega.{arith}
use native.Mathlib.Numerals.{add-one}
use lib.Dec.{eqb, leb, ltb}
use lib.ListN.{length, get_or, drop, length-drop}
use lib.Seq.{drop-cons}
use borrow.Author.Tests.{eqb-true, eqb-false, leb-true, leb-false, ltb-true, ltb-false, le-ltb, le-leb, lt-leb}
use Rattle.rules.specs.declared.Hint.{Hint}
use Rattle.rules.specs.Values.{max32}
use Rattle.rules.specs.Sections.{hint_lsn, is_kept}
use Rattle.rules.specs.Hints.{count_of, rise, rise_at, gap, smaller, rank, kept, thin}
use Rattle.thin.specs.Thin.{gap_from}
use Rattle.rules.proofs.Tests.{test, never, and_left, and_right, or_cases, or_none}
use Rattle.laws.specs.Order.{Rises}
use Rattle.laws.proofs.hint_lists.Ranks.{count_every}
use Rattle.laws.proofs.hint_lists.Cutoff.{count_split, kept_same}
use Rattle.laws.proofs.hint_lists.Thinning.{smaller→, smaller_less, smaller_level, kept_length}
use Rattle.adds.specs.declared.compare.Pair.{Pair}
use Rattle.adds.specs.declared.compare.Weighed.{Weighed}
use Rattle.adds.specs.Marks.{Marked, pair, lower, unweighed, weigh_one, weighed}
use Rattle.adds.proofs.compare.Counts.{Passing, count_some, count_under, count_strict, kept_places}
use Rattle.adds.proofs.compare.Marks.{hints_of, no_mark, new_at, replaced_at, some_replaced, hints_length, hints_at}

-- ---- gaps by the number before
rise_some : (p t : ℕ) → t ≤ max32 → (1 ≤ rise p t) × (rise p t ≤ max32)
unfolding rise
rise_some p t h =
    test (ltb p t) (λ e. let w = ltb-true p t e in rw e (omega arith, omega arith))
    (λ e. rw e (omega arith, omega arith))

-- numbers are no more than 32 bits
abbrev pub Numbered : List Marked → Type 0
Numbered ms = (i : ℕ) → (get_or ms i no_mark).hint.number ≤ max32

-- new ones are not kept
abbrev pub NewUnkept : List Marked → Type 0
NewUnkept ms = (i : ℕ) → new_at ms i ≡ true → is_kept (get_or ms i no_mark).hint ≡ false

-- whether a number is replaced
or_nothing : (a : Bool) → a ≡ (a || false)
or_nothing true = refl
or_nothing false = refl

or_assoc : (a b c : Bool) → ((a || b) || c) ≡ (a || (b || c))
or_assoc true b c = refl
or_assoc false b c = refl

pub weighed_replaced : (s : Weighed) (ms : List Marked) → (weighed s ms).replaced ≡ (s.replaced || some_replaced ms)
unfolding weighed weigh_one
weighed_replaced s [] = or_nothing s.replaced
weighed_replaced s (m ∷ ms) =
    weighed_replaced (weigh_one s m.new m.replaced m.hint) ms
    ∙ or_assoc s.replaced m.replaced (some_replaced ms)

-- pairs in order: the first no larger than the second, that smaller than the third, and that no larger than the fourth
between : {g i n p h q m k : ℕ} → (g < n) ⊎ ((g ≡ n) × (i ≤ p)) → (n < h) ⊎ ((n ≡ h) × (p < q))
    → (h < m) ⊎ ((m ≡ h) × (q ≤ k)) → (g < m) ⊎ ((g ≡ m) × (i < k))
between (inl a) (inl b) (inl c) = inl (omega arith)
between (inl a) (inl b) (inr c) = inl (omega arith)
between (inl a) (inr b) (inl c) = inl (omega arith)
between (inl a) (inr b) (inr c) = inl (omega arith)
between (inr a) (inl b) (inl c) = inl (omega arith)
between (inr a) (inl b) (inr c) = inl (omega arith)
between (inr a) (inr b) (inl c) = inl (omega arith)
between (inr a) (inr b) (inr c) = inr (omega arith, omega arith)

module _ (ms : List Marked) (small : Numbered ms) where
  abbrev us : List Hint
  us = hints_of ms

  abbrev number : ℕ → ℕ
  number i = (get_or ms i no_mark).hint.number

  abbrev before : ℕ → ℕ
  before zero = max32
  before (suc i) = number i

  rise_is : (i : ℕ) → rise_at us i ≡ rise (before i) (number i)
  unfolding rise_at rise
  rise_is zero = sym (rw (le-ltb max32 (number 0) (small 0)))
  rise_is (suc i) = rw (hints_at ms i, hints_at ms (suc i))

  gap_is : (i : ℕ) → gap us i ≡ gap_from (before i) (get_or ms i no_mark).hint
  unfolding gap gap_from
  gap_is i = rw (rise_is i, hints_at ms i)

  gap_range : (i : ℕ) → (1 ≤ gap us i) × (gap us i ≤ max32 + 1)
  unfolding gap_from
  gap_range i =
      let r = rise_some (before i) (number i) (small i) in let low = r.0 in let high = r.1 in
      rw (gap_is i)
      (test (is_kept (get_or ms i no_mark).hint) (λ e. rw e (omega arith, omega arith))
      (λ e. rw e (omega arith, omega arith)))

  gap_low : (i : ℕ) → is_kept (get_or ms i no_mark).hint ≡ false → gap us i ≤ max32
  unfolding gap_from
  gap_low i e = rw (gap_is i, e) (rise_some (before i) (number i) (small i)).1

  -- s is what the first places give
  record Upto (s : Weighed) : Type 0 where
    within : s.place ≤ length ms
    last : s.before ≡ before s.place
    new_most : (i : ℕ) → i < s.place → new_at ms i ≡ true
        → (gap us i < s.new.gap) ⊎ ((gap us i ≡ s.new.gap) × (i ≤ s.new.place))
    new_is : (s.new.gap ≡ 0) ⊎
        ((s.new.place < s.place) × (new_at ms s.new.place ≡ true) × (gap us s.new.place ≡ s.new.gap))
    held_least : (i : ℕ) → i < s.place → new_at ms i ≡ false
        → (s.held.gap < gap us i) ⊎ ((gap us i ≡ s.held.gap) × (s.held.place ≤ i))
    held_is : ((s.held.gap ≡ max32 + 1) × (s.held.place ≡ 0)) ⊎
        ((s.held.place < s.place) × (new_at ms s.held.place ≡ false) × (gap us s.held.place ≡ s.held.gap))

  none_yet : Upto unweighed
  none_yet = record {
    within = omega arith;
    last = refl;
    new_most = λ i l e. let z : ⊥ = omega arith in absurd z;
    new_is = inl refl;
    held_least = λ i l e. let z : ⊥ = omega arith in absurd z;
    held_is = inl (refl, refl);
  }

  -- one place more: it is the next, or was passed
  upto : {P : ℕ → Type 0} (p : ℕ) → P p → ((i : ℕ) → i < p → P i) → (i : ℕ) → i < p + 1 → P i
  upto {P} p h f i l =
      test (eqb i p) (λ e. rw (eqb-true i p e) h) (λ e. let z = eqb-false i p e in f i (omega (arith, z)))

  at_most : (a g i p : ℕ) → a ≤ g → i ≤ p → (a < g) ⊎ ((a ≡ g) × (i ≤ p))
  at_most a g i p h l =
      test (ltb a g) (λ e. inl (ltb-true a g e)) (λ e. let w = ltb-false a g e in inr (omega arith, l))

  module _ (s : Weighed) (u : Upto s) (l : s.place < length ms) where
    abbrev p : ℕ
    p = s.place

    abbrev goes : Pair → Pair → Weighed
    goes new held =
        record { place = p + 1; before = number p; new = new; held = held; replaced = s.replaced || replaced_at ms p }

    new_was : (s.new.gap ≡ 0) ⊎
        ((s.new.place < p + 1) × (new_at ms s.new.place ≡ true) × (gap us s.new.place ≡ s.new.gap))
    new_was = ⊎_elim (λ z. inl z) (λ t. let w = t.0 in inr (omega arith, t.1, t.2)) u.new_is

    held_was : ((s.held.gap ≡ max32 + 1) × (s.held.place ≡ 0)) ⊎
        ((s.held.place < p + 1) × (new_at ms s.held.place ≡ false) × (gap us s.held.place ≡ s.held.gap))
    held_was = ⊎_elim (λ z. inl z) (λ t. let w = t.0 in inr (omega arith, t.1, t.2)) u.held_is

    on : before (p + 1) ≡ number p
    on = rw (add-one p)

    module _ (e : new_at ms p ≡ true) where
      held_passed : (i : ℕ) → i < p + 1 → new_at ms i ≡ false
          → (s.held.gap < gap us i) ⊎ ((gap us i ≡ s.held.gap) × (s.held.place ≤ i))
      held_passed =
          upto {P =
          λ i. new_at ms i
          ≡ false
          → (s.held.gap < gap us i) ⊎ ((gap us i ≡ s.held.gap) × (s.held.place ≤ i))} p (λ f. never e f)
          u.held_least

      new_larger : s.new.gap ≤ gap us p → Upto (goes (pair (gap us p) p) s.held)
      new_larger h = record {
        within = omega arith;
        last = sym on;
        new_most =
            upto {P =
            λ i. new_at ms i
            ≡ true → (gap us i < gap us p) ⊎ ((gap us i ≡ gap us p) × (i ≤ p))} p (λ f. inr (refl, omega arith))
            (λ i k f. at_most (gap us i) (gap us p) i p
            (⊎_elim (λ a. let w : gap us i < s.new.gap = a in omega arith) (λ a. let w = a.0 in omega arith)
            (u.new_most i k f)) (omega arith));
        new_is = inr (omega arith, e, refl);
        held_least = held_passed;
        held_is = held_was;
      }

      new_smaller : gap us p < s.new.gap → Upto (goes s.new s.held)
      new_smaller h = record {
        within = omega arith;
        last = sym on;
        new_most =
            upto {P =
            λ i. new_at ms i
            ≡ true
            → (gap us i < s.new.gap) ⊎ ((gap us i ≡ s.new.gap) × (i ≤ s.new.place))} p (λ f. inl h) u.new_most;
        new_is = new_was;
        held_least = held_passed;
        held_is = held_was;
      }

    module _ (e : new_at ms p ≡ false) where
      new_passed : (i : ℕ) → i < p + 1 → new_at ms i ≡ true
          → (gap us i < s.new.gap) ⊎ ((gap us i ≡ s.new.gap) × (i ≤ s.new.place))
      new_passed =
          upto {P =
          λ i. new_at ms i
          ≡ true
          → (gap us i < s.new.gap) ⊎ ((gap us i ≡ s.new.gap) × (i ≤ s.new.place))} p (λ f. never f e)
          u.new_most

      held_smaller : gap us p < s.held.gap → Upto (goes s.new (pair (gap us p) p))
      held_smaller h = record {
        within = omega arith;
        last = sym on;
        new_most = new_passed;
        new_is = new_was;
        held_least =
            upto {P =
            λ i. new_at ms i
            ≡ false → (gap us p < gap us i) ⊎ ((gap us i ≡ gap us p) × (p ≤ i))} p (λ f. inr (refl, omega arith))
            (λ i k f. inl (⊎_elim (λ a. let w : s.held.gap < gap us i = a in omega arith)
            (λ a. let w = a.0 in omega arith) (u.held_least i k f)));
        held_is = inr (omega arith, e, refl);
      }

      held_larger : s.held.gap ≤ gap us p → Upto (goes s.new s.held)
      held_larger h =
          let q : s.held.place ≤ p =
          ⊎_elim (λ z. let w = z.1 in omega arith) (λ t. let w = t.0 in omega arith) u.held_is in
          record {
            within = omega arith;
            last = sym on;
            new_most = new_passed;
            new_is = new_was;
            held_least =
                upto {P =
                λ i. new_at ms i
                ≡ false → (s.held.gap < gap us i) ⊎ ((gap us i ≡ s.held.gap) × (s.held.place ≤ i))} p
                (λ f. ⊎_elim (λ a. inl a) (λ a. let w : s.held.gap ≡ gap us p = a.0 in inr (sym w, q))
                (at_most s.held.gap (gap us p) s.held.place p h q)) u.held_least;
            held_is = held_was;
          }

    here : gap_from s.before (get_or ms p no_mark).hint ≡ gap us p
    here = sym (gap_is p ∙ rw u.last)

    step : Upto (weigh_one s (new_at ms p) (replaced_at ms p) (get_or ms p no_mark).hint)
    unfolding weigh_one
    step =
        test (new_at ms p)
        (λ e. rw (e, here) (test (leb s.new.gap (gap us p)) (λ a. rw a (new_larger e (leb-true _ _ a)))
        (λ a. rw a (new_smaller e (leb-false _ _ a)))))
        (λ e. rw (e, here) (test (ltb (gap us p) s.held.gap) (λ a. rw a (held_smaller e (ltb-true _ _ a)))
        (λ a. rw a (held_larger e (ltb-false _ _ a)))))

  -- all places
  abbrev Whole : Weighed → Type 0
  Whole s = Upto s × (s.place ≡ length ms)

  next_place : (s : Weighed) (m : Marked) → (weigh_one s m.new m.replaced m.hint).place ≡ suc s.place
  unfolding weigh_one
  next_place s m = add-one s.place

  weigh_from : (rest : List Marked) (s : Weighed) → Upto s → drop s.place ms ≡ rest → Whole (weighed s rest)
  unfolding weighed
  weigh_from [] s u e =
      let n = length-drop s.place ms in let z : length (drop s.place ms) ≡ 0 = ap length e in
      let w = u.within in (u, omega arith)
  weigh_from (m ∷ rest) s u e =
      let n = length-drop s.place ms in
      let z : length (drop s.place ms) ≡ suc (length rest) = ap length e in
      let l : s.place < length ms = omega arith in
      let d : get_or ms s.place no_mark ∷ drop (suc s.place) ms ≡ m ∷ rest =
      sym (drop-cons ms s.place no_mark l) ∙ e in
      let q : get_or ms s.place no_mark ≡ m = cc in
      let r : drop (suc s.place) ms ≡ rest = cc in
      let u' : Upto (weigh_one s m.new m.replaced m.hint) =
      subst (λ (x : Marked). Upto (weigh_one s x.new x.replaced x.hint)) q (step s u l) in
      weigh_from rest (weigh_one s m.new m.replaced m.hint) u' (rw (next_place s m) r)

  abbrev all_weighed : Weighed
  all_weighed = weighed unweighed ms

  whole : Whole all_weighed
  whole = weigh_from ms unweighed none_yet refl

  pub weighed_all : (weighed unweighed ms).place ≡ length ms
  weighed_all = whole.1

  -- ---- where every new one goes before every held one
  before_not : (i k : ℕ) → smaller us i k ≡ true → smaller us k i ≡ true → ⊥
  before_not i k e f =
      ⊎_elim
      (λ (a : gap us k < gap us i). ⊎_elim (λ (b : gap us i < gap us k). omega arith)
      (λ (b : (gap us i ≡ gap us k) × (i < k)). omega arith) (smaller→ us k i f))
      (λ (a : (gap us k ≡ gap us i) × (k < i)). ⊎_elim (λ (b : gap us i < gap us k). omega arith)
      (λ (b : (gap us i ≡ gap us k) × (i < k)). omega arith) (smaller→ us k i f))
      (smaller→ us i k e)

  not_itself : (i : ℕ) → smaller us i i ≡ false
  not_itself i = test (smaller us i i) (λ e. absurd (before_not i i e e)) (λ e. e)

  -- how many are new
  fresh : ℕ
  fresh = count_of (new_at ms) (length ms)

  abbrev stays : ℕ → Bool
  stays i = not (new_at ms i)

  fresh_count : (hs : List Hint) → kept stays us (length ms) ≡ hs → fresh + length hs ≡ length ms
  unfolding fresh
  fresh_count hs e =
      let c = count_split (λ i. true) (new_at ms) stays (length ms) (λ k. test (new_at ms k) (λ f. rw f) (λ f. rw f)) in
      let d : length hs ≡ count_of stays (length ms) = ap length (sym e) ∙ kept_length stays us (length ms) in
      let every : count_of (λ i. true) (length ms) ≡ length ms = count_every (λ i. true) (length ms) (λ k l. refl) in
      omega arith

  module _
      (sep : (i k : ℕ) → i < length ms → k < length ms → new_at ms i ≡ true → new_at ms k ≡ false
      → smaller us k i ≡ true) where
    new_low : (i : ℕ) → i < length ms → new_at ms i ≡ true → rank us i < fresh
    unfolding rank fresh
    new_low i l e =
        rw (hints_length ms)
        (count_strict (smaller us i) (new_at ms) (length ms) i l
        (λ k m f. test (new_at ms k) (λ g. g) (λ g. absurd (before_not i k f (sep i k l m e g)))) (not_itself i) e)

    held_high : (k : ℕ) → k < length ms → new_at ms k ≡ false → fresh ≤ rank us k
    unfolding rank fresh
    held_high k l e =
        rw (hints_length ms) (count_under (new_at ms) (smaller us k) (length ms) (λ i m f. sep i k m l f e))

    apart : (i : ℕ) → i < length ms → leb fresh (rank us i) ≡ stays i
    apart i l =
        test (new_at ms i) (λ e. rw (e, lt-leb fresh (rank us i) (new_low i l e)))
        (λ e. rw (e, le-leb fresh (rank us i) (held_high i l e)))

    -- thinning leaves the held ones
    thin_leaves : (hs : List Hint) → kept stays us (length ms) ≡ hs → thin (length hs) us ≡ hs
    unfolding thin
    thin_leaves hs e =
        let c = fresh_count hs e in
        let q : length ms - length hs ≡ fresh = omega arith in
        rw (hints_length ms, q) (kept_same (λ i. leb fresh (rank us i)) stays us (length ms) apart ∙ e)

  -- ---- where a held one goes before a new one
  module _ (b : ℕ) (r : Rises hint_lsn b us) (i k : ℕ) (li : i < length ms) (lk : k < length ms)
      (ei : new_at ms i ≡ true) (ek : new_at ms k ≡ false) (f : smaller us i k ≡ true) where
    chain : (j : ℕ) → smaller us k j ≡ true → smaller us i j ≡ true
    chain j g =
        ⊎_elim
        (λ (a : gap us k < gap us i). ⊎_elim (λ (c : gap us j < gap us k). smaller_less us i j (omega arith))
        (λ (c : (gap us j ≡ gap us k) × (j < k)). smaller_less us i j (omega arith)) (smaller→ us k j g))
        (λ (a : (gap us k ≡ gap us i) × (k < i)).
        ⊎_elim (λ (c : gap us j < gap us k). smaller_less us i j (omega arith))
        (λ (c : (gap us j ≡ gap us k) × (j < k)). smaller_level us i j (omega arith) (omega arith)) (smaller→ us k j g))
        (smaller→ us i k f)

    rank_order : rank us k ≤ rank us i
    unfolding rank
    rank_order = count_under (smaller us k) (smaller us i) (length us) (λ j m g. chain j g)

    thin_changes : (hs : List Hint) → kept stays us (length ms) ≡ hs → thin (length hs) us ≡ hs → ⊥
    unfolding thin
    thin_changes hs e t =
        let c = fresh_count hs e in
        let q : length ms - length hs ≡ fresh = omega arith in
        let n = hints_length ms in
        let t' : kept (λ j. leb fresh (rank us j)) us (length ms) ≡ kept stays us (length ms) =
        (rw (n, q) at t) ∙ sym e in
        let same = kept_places b us r (λ j. leb fresh (rank us j)) stays (length ms) (omega arith) t' in
        let hk : leb fresh (rank us k) ≡ true = same k lk ∙ rw ek in
        let hi : leb fresh (rank us i) ≡ false = same i li ∙ rw ei in
        let o = rank_order in
        let x = leb-true fresh (rank us k) hk in
        let y = leb-false fresh (rank us i) hi in
        omega arith

  -- ---- the largest of the new and the smallest of the held decide
  module _ (b : ℕ) (r : Rises hint_lsn b us) (hs : List Hint) (e : kept stays us (length ms) ≡ hs) where
    some_smaller : lower all_weighed.new all_weighed.held ≡ true → (i k : ℕ) → i < length ms → k < length ms
        → new_at ms i ≡ true → new_at ms k ≡ false → smaller us k i ≡ true
    unfolding lower
    some_smaller h i k li lk ei ek =
        let w = whole.0 in let n = whole.1 in
        let s = all_weighed in
        let x = w.new_most i (omega arith) ei in
        let y = w.held_least k (omega arith) ek in
        let z : (s.new.gap < s.held.gap) ⊎ ((s.new.gap ≡ s.held.gap) × (s.new.place < s.held.place)) =
        ⊎_elim (λ a. inl (ltb-true _ _ a))
        (λ a. inr (
          eqb-true _ _ (and_left _ (ltb s.new.place s.held.place) a),
          ltb-true _ _ (and_right (eqb s.new.gap s.held.gap) _ a),
        )) (or_cases _ _ h) in
        ⊎_elim (λ a. smaller_less us k i a) (λ a. smaller_level us k i a.0 a.1) (between x z y)

    pub leaves : lower all_weighed.new all_weighed.held ≡ true → thin (length hs) us ≡ hs
    leaves h = thin_leaves (some_smaller h) hs e

    module _ (some-new : length hs < length ms) (plain : NewUnkept ms) where
      new_found : Passing (new_at ms) (length ms)
      unfolding fresh
      new_found = let c = fresh_count hs e in count_some (new_at ms) (length ms) (omega arith)

      largest_new : (all_weighed.new.place < length ms) × (new_at ms all_weighed.new.place ≡ true)
          × (gap us all_weighed.new.place ≡ all_weighed.new.gap)
      largest_new =
          let w = whole.0 in let n = whole.1 in
          let f = new_found in let fi = f.inside in let g = (gap_range f.place).0 in
          ⊎_elim (λ z. ⊎_elim (λ (a : gap us f.place < all_weighed.new.gap). let x : ⊥ = omega arith in absurd x)
          (λ (a : (gap us f.place ≡ all_weighed.new.gap) × (f.place ≤ all_weighed.new.place)).
          let x : ⊥ = omega arith in absurd x) (w.new_most f.place (omega arith) f.passes))
          (λ t. let x = t.0 in (omega arith, t.1, t.2)) w.new_is

      -- the largest pair of a new one is below that of a held one that is not known, or of a kept one
      new_below : all_weighed.new.gap ≤ max32
      new_below =
          let a = largest_new in let x = a.2 in
          let y = gap_low all_weighed.new.place (plain all_weighed.new.place a.1) in omega arith

      smallest_held : lower all_weighed.new all_weighed.held ≡ false
          → (all_weighed.held.place < length ms) × (new_at ms all_weighed.held.place ≡ false)
          × (gap us all_weighed.held.place ≡ all_weighed.held.gap)
      unfolding lower
      smallest_held h =
          let w = whole.0 in let n = whole.1 in
          let o = or_none (ltb all_weighed.new.gap all_weighed.held.gap) _ h in
          let u = ltb-false all_weighed.new.gap all_weighed.held.gap o.0 in
          let below = new_below in
          ⊎_elim (λ z. let g = z.0 in let x : ⊥ = omega arith in absurd x)
          (λ t. let x = t.0 in (omega arith, t.1, t.2)) w.held_is

      held_below : lower all_weighed.new all_weighed.held ≡ false
          → smaller us all_weighed.new.place all_weighed.held.place ≡ true
      unfolding lower
      held_below h =
          let s = all_weighed in
          let a = largest_new in let b = smallest_held h in
          let x = a.2 in let y = b.2 in
          let o = or_none (ltb s.new.gap s.held.gap) _ h in
          let u = ltb-false s.new.gap s.held.gap o.0 in
          test (eqb s.new.gap s.held.gap)
          (λ q. let g = eqb-true s.new.gap s.held.gap q in
          let v = ltb-false s.new.place s.held.place (rw q at o.1) in
          test (eqb s.new.place s.held.place)
          (λ z. never a.1 (rw (eqb-true s.new.place s.held.place z) b.1))
          (λ z. let d = eqb-false s.new.place s.held.place z in smaller_level us s.new.place
          s.held.place (omega arith) (omega (arith, d))))
          (λ q. let g = eqb-false s.new.gap s.held.gap q in smaller_less us s.new.place s.held.place
          (omega (arith, g)))

      pub changes : lower all_weighed.new all_weighed.held ≡ false → thin (length hs) us ≡ hs → ⊥
      changes h =
          let n = largest_new in let k = smallest_held h in
          thin_changes b r all_weighed.new.place all_weighed.held.place n.0 k.0 n.1 k.1
          (held_below h) hs e
