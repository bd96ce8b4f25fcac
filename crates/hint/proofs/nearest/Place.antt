-- The nearest hint, and that it is near. Assumes nothing.
use Rattle.std.proofs.Common.{◌≡◌, ℕ, zero, suc, ◌+◌, ◌-◌, ◌%◌, ◌<◌, Bool, true, false, ltb, leb, List, length, get_or, sym, refl, ap, ◌∙◌, add-one, arith, ltb-false, ltb-true, le-ltb, lt-ltb, le-leb, Option, None, Some}
use mathlib.Core.Bool.{and-true}
use Rattle.std.specs.declared.option.Option as code
use Rattle.std.specs.declared.option.Option.TheVariants.{None, Some}
use Rattle.std.specs.Option.{IfSome}
use borrow.Author.Tests.{lt-leb}
use Rattle.field.specs.Records.{record_at}
use Rattle.field.proofs.Records.{records_length, records_at}
use Rattle.rules.specs.declared.Confirmation.{Confirmation}
use Rattle.rules.specs.declared.Hint.{Hint}
use Rattle.rules.specs.Tests.{or_else}
use Rattle.rules.specs.Values.{no_hint, hint_reach}
use Rattle.rules.specs.Hints.{near, larger_of, largest_of, hint_place}
use Rattle.rules.proofs.Tests.{test, and_left}
use Rattle.rules_jump.specs.Names.{chosen_by, start_rule}
use Rattle.rules_jump.proofs.Largest.{largest_holds}
use Rattle.rules_jump.specs.declared.HintStart.TheVariants.{Confirmed, Nearest}
use Rattle.tables.specs.Tables.{decode_kept, kept_in}
use Rattle.hint.specs.Steps.{candidate, larger_than, largest_in}

-- ---- near
-- by how far the number is above the lower bound, modulo 2^32
module _ {low d : ℕ} (first : ℕ) (h : Hint) (l : low ≡ first - hint_reach) (e : d ≡ (h.number + (4294967296 - low)) % 4294967296)
    (small : h.number < 4294967296) (below : first < 4294967296) where
  under : h.number < first → ltb d (first - low) ≡ leb (first - h.number) hint_reach
  under u =
      test (ltb h.number low)
      (λ t. let v = ltb-true h.number low t in
      le-ltb d (first - low) (omega arith) ∙ sym (lt-leb (first - h.number) hint_reach (omega arith)))
      (λ t. let v = ltb-false h.number low t in
      lt-ltb d (first - low) (omega arith) ∙ sym (le-leb (first - h.number) hint_reach (omega arith)))

  pub near_is : {q : Bool} → q ≡ ltb d (first - low) → q ≡ near first h
  unfolding near
  near_is g =
      test (ltb h.number first) (λ t. rw t (g ∙ under (ltb-true h.number first t)))
      (λ t. let v = ltb-false h.number first t in rw t (g ∙ le-ltb d (first - low) (omega arith)))

-- ---- the largest
larger_yes : (hs : List Hint) (o : Option ℕ) (k : ℕ) → true ≡ larger_than hs o k → larger_of hs o k ≡ k
unfolding larger_than larger_of
larger_yes hs None k e = refl
larger_yes hs (Some i) k e = rw (← e)

larger_no : (hs : List Hint) (o : Option ℕ) (k : ℕ) → false ≡ larger_than hs o k → Some (larger_of hs o k) ≡ o
unfolding larger_than larger_of
larger_no hs None k e = cc
larger_no hs (Some i) k e = rw (← e)

pub below_next : (o : code.Option ℕ) (j : ℕ) → IfSome o (λ i. i < j) → IfSome o (λ i. i < j + 1)
below_next None j h = tt
below_next (Some i) j h = omega arith

module _ (checked any : Bool) (n : ℕ) (t : List ℕ) (cs : List Confirmation) (first j : ℕ) (l : j < n) {h : Hint} {o : Option ℕ}
    (b : o ≡ largest_in checked any (kept_in n t) cs first j) (e : h ≡ record_at 8 decode_kept t j) where
  pub largest_skip : false ≡ candidate checked any cs first h → o ≡ largest_in checked any (kept_in n t) cs first (j + 1)
  unfolding largest_in largest_of
  largest_skip c = b ∙ sym (rw (add-one, records_at 8 decode_kept n t j no_hint l, ← e, ← c))

  module _ (c : true ≡ candidate checked any cs first h) where
    pub largest_new : true ≡ larger_than (kept_in n t) o j → Some j ≡ largest_in checked any (kept_in n t) cs first (j + 1)
    unfolding largest_in largest_of
    largest_new g = sym (rw (add-one, records_at 8 decode_kept n t j no_hint l, ← e, ← c, ← b) (ap Some (larger_yes (kept_in n t) o j g)))

    pub largest_old : false ≡ larger_than (kept_in n t) o j → o ≡ largest_in checked any (kept_in n t) cs first (j + 1)
    unfolding largest_in largest_of
    largest_old g = sym (rw (add-one, records_at 8 decode_kept n t j no_hint l, ← e, ← c, ← b) (larger_no (kept_in n t) o j g))

-- the same test, the same place
largest_same : (p q : ℕ → Bool) (hs : List Hint) → ((i : ℕ) → p i ≡ q i) → (n : ℕ) → largest_of p hs n ≡ largest_of q hs n
unfolding largest_of
largest_same p q hs e zero = refl
largest_same p q hs e (suc n) = rw (e n, largest_same p q hs e n)

module _ (checked : Bool) (n : ℕ) (t : List ℕ) (cs : List Confirmation) (first : ℕ) where
  abbrev hs : List Hint
  hs = kept_in n t

  near_all : largest_in checked true hs cs first n ≡ largest_of (λ i. near first (get_or hs i no_hint)) hs n
  unfolding largest_in candidate
  near_all = largest_same _ _ hs (λ i. and-true (near first (get_or hs i no_hint))) n

  module _ {o : Option ℕ} (e : o ≡ largest_in checked false hs cs first n) where
    pub place_confirmed : {i : ℕ} → o ≡ Some i → o ≡ hint_place checked hs cs first
    unfolding hint_place or_else largest_in candidate
    place_confirmed z = z ∙ sym (rw (records_length, ← e, z))

    pub place_any : {q : Option ℕ} → o ≡ None → q ≡ largest_in checked true hs cs first n
        → q ≡ hint_place checked hs cs first
    unfolding hint_place or_else largest_in candidate
    place_any z g = g ∙ near_all ∙ sym (rw (records_length, ← e, z))

    pub start_confirmed : {i : ℕ} → o ≡ Some i → Confirmed ≡ start_rule checked hs cs first
    unfolding start_rule chosen_by largest_in candidate
    start_confirmed z = sym (rw (records_length, ← e, z))

    pub start_nearest : o ≡ None → Nearest ≡ start_rule checked hs cs first
    unfolding start_rule chosen_by largest_in candidate
    start_nearest z = sym (rw (records_length, ← e, z))

or_holds : (P : ℕ → Type 0) (o o' : Option ℕ) (i : ℕ) → (o ≡ Some i → P i) → (o' ≡ Some i → P i) → or_else o o' ≡ Some i
    → P i
unfolding or_else
or_holds P None o' i f g e = g e
or_holds P (Some k) o' i f g e = f e

-- the place to begin at is one of the list, numbered below first
pub place_near : (checked : Bool) (n : ℕ) (t : List ℕ) (cs : List Confirmation) (first i : ℕ)
    → hint_place checked (kept_in n t) cs first ≡ Some i
    → (i < n) × ((get_or (kept_in n t) i no_hint).number < first)
unfolding hint_place near
place_near checked n t cs first i e =
    let hs = kept_in n t in
    let k : length hs ≡ n = records_length 8 decode_kept n t in
    or_holds (λ i. (i < n) × ((get_or hs i no_hint).number < first)) _ _ i
    (λ d. let r = largest_holds _ hs (length hs) i d in
    (let l = r.0 in omega arith, ltb-true _ first (and_left _ _ (and_left _ _ r.1))))
    (λ d. let r = largest_holds _ hs (length hs) i d in
    (let l = r.0 in omega arith, ltb-true _ first (and_left _ _ r.1))) e
