-- Laws of thinning by ranks. Assumes nothing.
use mathlib.Core.Path.{◌≡◌, refl, ◌∙◌}
use mathlib.Core.Bool.{Bool, true, false}
use mathlib.Core.Logic.{⊎_elim, ◌⊎◌, inl, inr}
use mathlib.Core.List.{List, [], ◌∷◌, ◌++◌, append-nil}
use Prim.Native.Nat.{ℕ, zero, suc, ◌-◌, ◌<◌, ◌≤◌, min}
use native.Mathlib.Omega.{arith}
use lib.Dec.{eqb, leb, ltb}
use lib.ListN.{length, get_or, take, length-append}
use lib.Seq.{take-suc, take-length}
use borrow.Author.Tests.{eqb-true, ltb-true, eq-eqb, le-leb, le-ltb, lt-ltb}
use Rattle.rules.specs.declared.Hint.{Hint}
use Rattle.rules.specs.Values.{no_hint}
use Rattle.rules.specs.Hints.{count_of, gap, smaller, rank, kept, thin}
use Rattle.rules.proofs.Tests.{test, order, never, and_left, and_right, or_cases, or_left, or_right, both}
use Rattle.laws.proofs.hint_lists.Lists.{Sub, empty, sub_none, sub_self, sub_append}
use Rattle.laws.proofs.hint_lists.Ranks.{count_none, count_next, ranks}

-- ---- the order of (gap, place)
module _ (hs : List Hint) where
  pub smaller→ : (i k : ℕ) → smaller hs i k ≡ true → (gap hs k < gap hs i) ⊎ ((gap hs k ≡ gap hs i) × (k < i))
  unfolding smaller
  smaller→ i k e =
      ⊎_elim (λ h. inl (ltb-true (gap hs k) (gap hs i) h))
      (λ h. inr (eqb-true (gap hs k) (gap hs i) (and_left _ (ltb k i) h), ltb-true k i (and_right (eqb (gap hs k) (gap hs i)) _ h))) (or_cases _ _ e)

  pub smaller_less : (i k : ℕ) → gap hs k < gap hs i → smaller hs i k ≡ true
  unfolding smaller
  smaller_less i k h = or_left _ (lt-ltb (gap hs k) (gap hs i) h)

  pub smaller_level : (i k : ℕ) → gap hs k ≡ gap hs i → k < i → smaller hs i k ≡ true
  unfolding smaller
  smaller_level i k h l = or_right (ltb (gap hs k) (gap hs i)) (both (eq-eqb (gap hs k) (gap hs i) h) (lt-ltb k i l))

  smaller_self : (i : ℕ) → smaller hs i i ≡ false
  unfolding smaller
  smaller_self i = rw (le-ltb (gap hs i) (gap hs i) (omega arith), eq-eqb (gap hs i) (gap hs i) refl, le-ltb i i (omega arith))

  smaller_chain : (i j k : ℕ) → smaller hs i j ≡ true → smaller hs j k ≡ true → smaller hs i k ≡ true
  smaller_chain i j k e f =
      ⊎_elim (λ (a : gap hs j < gap hs i). ⊎_elim (λ (b : gap hs k < gap hs j). smaller_less i k (omega arith)) (λ (b : (gap hs k ≡ gap hs j) × (k < j)). smaller_less i k (omega arith)) (smaller→ j k f))
      (λ (a : (gap hs j ≡ gap hs i) × (j < i)).
      ⊎_elim (λ (b : gap hs k < gap hs j). smaller_less i k (omega arith)) (λ (b : (gap hs k ≡ gap hs j) × (k < j)). smaller_level i k (omega arith) (omega arith)) (smaller→ j k f))
      (smaller→ i j e)

  smaller_total : (i j : ℕ) → i < j → smaller hs i j ≡ false → smaller hs j i ≡ true
  smaller_total i j l e =
      order (gap hs i) (gap hs j) (λ h. smaller_less j i h) (λ h. never (smaller_less i j h) e) (λ h. smaller_level j i h l)

  -- of n places, n - e have a rank of e or more
  pub ranks_from : (e : ℕ) → count_of (λ i. leb e (rank hs i)) (length hs) ≡ length hs - e
  unfolding rank
  ranks_from e = ranks (smaller hs) smaller_self smaller_chain smaller_total e (length hs)

-- ---- the places that p keeps
module _ (p : ℕ → Bool) (hs : List Hint) where
  pub kept_none : kept p hs 0 ≡ []
  unfolding kept
  kept_none = refl

  pub kept_yes : (n : ℕ) → p n ≡ true → kept p hs (suc n) ≡ kept p hs n ++ (get_or hs n no_hint ∷ [])
  unfolding kept
  kept_yes n e = rw e

  pub kept_no : (n : ℕ) → p n ≡ false → kept p hs (suc n) ≡ kept p hs n
  unfolding kept
  kept_no n e = rw e (append-nil (kept p hs n))

  pub kept_length : (n : ℕ) → length (kept p hs n) ≡ count_of p n
  kept_length zero = rw (kept_none, count_none p)
  kept_length (suc n) =
      test (p n) (λ e. rw (kept_yes n e, count_next p n, e, length-append, kept_length n)) (λ e. rw (kept_no n e, count_next p n, e, kept_length n) (omega arith))

  pub kept_sub : (n : ℕ) → n ≤ length hs → Sub (kept p hs n) (take n hs)
  kept_sub zero l = rw kept_none empty
  kept_sub (suc n) l =
      let s = kept_sub n (omega arith) in let z = get_or hs n no_hint ∷ [] in let t = take-suc hs n no_hint l in
      test (p n) (λ e. rw (kept_yes n e, t) (sub_append s (sub_self z))) (λ e. rw (kept_no n e, t) (rw append-nil at (sub_append s (sub_none z))))

  pub kept_every : (n : ℕ) → n ≤ length hs → ((k : ℕ) → k < n → p k ≡ true) → kept p hs n ≡ take n hs
  kept_every zero l h = kept_none
  kept_every (suc n) l h = rw (kept_yes n (h n (omega arith)), take-suc hs n no_hint l, kept_every n (omega arith) (λ k m. h k (omega arith)))

-- ---- thinning
module _ (most : ℕ) (hs : List Hint) where
  -- those left are hints of the list, in its order
  pub thin_sub : Sub (thin most hs) hs
  unfolding thin
  thin_sub = rw take-length at (kept_sub (λ i. leb (length hs - most) (rank hs i)) hs (length hs) (omega arith))

  pub thin_length : length (thin most hs) ≡ min (length hs) most
  unfolding thin
  thin_length = omega (arith, kept_length (λ i. leb (length hs - most) (rank hs i)) hs (length hs), ranks_from hs (length hs - most))

  pub thin_few : length hs ≤ most → thin most hs ≡ hs
  unfolding thin
  thin_few l =
      kept_every (λ i. leb (length hs - most) (rank hs i)) hs (length hs) (omega arith) (λ k m. le-leb (length hs - most) (rank hs k) (omega arith)) ∙ take-length hs
