-- Confirmations stay in order, and at most M, when others are kept. Assumes nothing.
use mathlib.Core.Path.{◌≡◌, refl}
use mathlib.Core.Bool.{Bool, true}
use mathlib.Core.List.{List, [], ◌∷◌}
use Prim.Native.Nat.{ℕ, ◌≤◌, min}
use native.Mathlib.Omega.{arith}
use lib.Dec.{eqb, leb, ltb}
use lib.ListN.{length}
use borrow.Author.Tests.{ltb-true, lt-ltb, le-leb}
use Rattle.rules.specs.declared.Area.{Area}
use Rattle.rules.specs.declared.Confirmation.{Confirmation}
use Rattle.rules.specs.Values.{lim, max64}
use Rattle.rules.specs.Sections.{confirmed_lsn, confirmation_ok, confirmations_ok}
use Rattle.rules.specs.Hints.{insert, in_area, held_confirmation, last_ones, keeps_nothing, keep, keep_all, question14}
use Rattle.rules.proofs.Tests.{test, and_left, and_right, both}
use Rattle.laws.proofs.hint_lists.Lists.{Sub, sub_last, last_length, All, Passes, all_sub, all_insert, all_map}
use Rattle.laws.proofs.hint_lists.Rising.{rising_each, rising_sub, rising_insert}
use Rattle.laws.proofs.hint_lists.Hints.{inside→}

-- ---- two that meet
pub met_lsn : (c d : Confirmation) → c.lsn ≡ d.lsn → (held_confirmation c d).lsn ≡ d.lsn
unfolding held_confirmation
met_lsn c d q = test (eqb c.digest d.digest) (λ e. rw e q) (λ e. rw e)

pub met_ok : (c d : Confirmation) → confirmation_ok d ≡ true → confirmation_ok c ≡ true → confirmation_ok (held_confirmation c d) ≡ true
unfolding held_confirmation
met_ok c d k h =
    test (eqb c.digest d.digest) (λ e. rw e (lt-ltb (min c.threshold d.threshold) lim (omega (arith, ltb-true c.threshold lim h)))) (λ e. rw e k)

abbrev pub digest_sized : Confirmation → Bool
digest_sized c = leb c.digest max64

pub met_sized : (c d : Confirmation) → digest_sized d ≡ true → digest_sized c ≡ true → digest_sized (held_confirmation c d) ≡ true
unfolding held_confirmation
met_sized c d k h = test (eqb c.digest d.digest) (λ e. rw e h) (λ e. rw e k)

-- ---- keeping, for whatever Q it keeps
module _ (checked : Bool) (most : ℕ) (Q : List Confirmation → Type 0) where
  pub keep_cases : (cs : List Confirmation) (c : Confirmation) → Q cs → Q (last_ones most (insert confirmed_lsn held_confirmation c cs)) → Q (keep checked most cs c)
  unfolding keep
  keep_cases cs c h k = test (keeps_nothing checked most) (λ e. rw e h) (λ e. rw e k)

  pub keep_all_keeps : (P : Confirmation → Type 0) → ((cs : List Confirmation) (c : Confirmation) → P c → Q cs → Q (keep checked most cs c))
      → (cs xs : List Confirmation) → All P xs → Q cs → Q (keep_all checked most cs xs)
  unfolding keep_all
  keep_all_keeps P f cs [] p h = h
  keep_all_keeps P f cs (x ∷ xs) p h = keep_all_keeps P f (keep checked most cs x) xs p.1 (f cs x p.0 h)

module _ (checked : Bool) (most : ℕ) where
  -- ---- at most M
  pub keep_length : (cs : List Confirmation) (c : Confirmation) → length cs ≤ most → length (keep checked most cs c) ≤ most
  keep_length cs c l =
      keep_cases checked most (λ l. length l ≤ most) cs c l (omega (arith, last_length most (insert confirmed_lsn held_confirmation c cs)))

  pub keep_all_length : (cs xs : List Confirmation) → length cs ≤ most → length (keep_all checked most cs xs) ≤ most
  keep_all_length cs xs l = keep_all_keeps checked most (λ l. length l ≤ most) (λ x. Unit {0}) (λ ds c u h. keep_length ds c h) cs xs (units xs) l
    where
      units : (xs : List Confirmation) → All (λ x. Unit {0}) xs
      units [] = tt
      units (x ∷ xs) = (tt, units xs)

  -- ---- in order
  module _ (a : Area) where
    pub keep_ok : (cs : List Confirmation) (c : Confirmation) → question14 a c ≡ true → confirmations_ok a cs ≡ true → confirmations_ok a (keep checked most cs c) ≡ true
    unfolding question14 confirmations_ok
    keep_ok cs c p e =
        let b = inside→ a c.lsn (and_left _ (ltb c.threshold lim) p) in let t = and_right (in_area a c.lsn) _ p in
        keep_cases checked most (λ l. confirmations_ok a l ≡ true) cs c e
        (rising_sub confirmed_lsn confirmation_ok a.start a.end (sub_last most (insert confirmed_lsn held_confirmation c cs))
        (rising_insert confirmed_lsn confirmation_ok held_confirmation c (λ y q. met_lsn y c q) (λ y q h. met_ok y c t h) a.start a.end cs b.0 b.1 t e))

    pub keep_all_ok : (cs xs : List Confirmation) → Passes (question14 a) xs → confirmations_ok a cs ≡ true → confirmations_ok a (keep_all checked most cs xs) ≡ true
    keep_all_ok cs xs p e = keep_all_keeps checked most (λ l. confirmations_ok a l ≡ true) (λ c. question14 a c ≡ true) keep_ok cs xs p e

  -- ---- digests of 64 bits
  pub keep_sized : (cs : List Confirmation) (c : Confirmation) → digest_sized c ≡ true → Passes digest_sized cs → Passes digest_sized (keep checked most cs c)
  keep_sized cs c p h =
      keep_cases checked most (Passes digest_sized) cs c h
      (all_sub _ (sub_last most (insert confirmed_lsn held_confirmation c cs)) (all_insert confirmed_lsn held_confirmation c (λ d. digest_sized d ≡ true) p (λ y q k. met_sized y c p k) cs h))

  pub keep_all_sized : (cs xs : List Confirmation) → Passes digest_sized xs → Passes digest_sized cs → Passes digest_sized (keep_all checked most cs xs)
  keep_all_sized cs xs p h = keep_all_keeps checked most (Passes digest_sized) (λ c. digest_sized c ≡ true) keep_sized cs xs p h

  -- ---- where nothing is kept
  module _ (none : keeps_nothing checked most ≡ true) where
    pub keep_none : (cs : List Confirmation) (c : Confirmation) → keep checked most cs c ≡ cs
    unfolding keep
    keep_none cs c = rw none

    pub keep_all_none : (cs xs : List Confirmation) → keep_all checked most cs xs ≡ cs
    unfolding keep_all
    keep_all_none cs [] = refl
    keep_all_none cs (x ∷ xs) = rw (keep_none cs x) (keep_all_none cs xs)

-- ---- confirmations of an index are as question 14 asks
module _ (a : Area) where
  pub confirmed_pass : (cs : List Confirmation) → confirmations_ok a cs ≡ true → Passes (question14 a) cs
  unfolding confirmations_ok question14 in_area
  confirmed_pass cs e =
      all_map _ (λ c. question14 a c ≡ true) (λ c h. both (both (le-leb a.start c.lsn h.0) (lt-ltb c.lsn a.end h.1.0)) h.1.1) cs
      (rising_each confirmed_lsn confirmation_ok a.start a.end cs e)

  pub confirmed_sub : {xs ys : List Confirmation} → Sub xs ys → confirmations_ok a ys ≡ true → confirmations_ok a xs ≡ true
  unfolding confirmations_ok
  confirmed_sub s e = rising_sub confirmed_lsn confirmation_ok a.start a.end s e
