-- The largest of the hints that pass a test. Assumes nothing.
use Rattle.std.specs.Prelude.{Option, None, Some}
use mathlib.Core.Path.{◌≡◌, refl, sym, ◌∙◌}
use mathlib.Core.Bool.{Bool, true, true≢false}
use mathlib.Core.List.{List}
use Prim.Native.Nat.{ℕ, zero, suc, ◌<◌}
use native.Mathlib.Omega.{arith}
use borrow.Author.Tests.{eqb-true, eqb-false}
use lib.Dec.{eqb}
use Rattle.rules.specs.declared.Hint.{Hint}
use Rattle.rules.specs.Hints.{larger, larger_of, largest_of}
use Rattle.rules.proofs.Tests.{test}

some_is : {a b : ℕ} → ◌≡◌ {A = Option ℕ} (Some a) (Some b) → a ≡ b
some_is e = cc

-- ---- it passes its test
module _ (p : ℕ → Bool) (hs : List Hint) where
  larger_holds : (k : ℕ) (o : Option ℕ) (i : ℕ) → ((m : ℕ) → o ≡ Some m → (m < k) × (p m ≡ true)) → p k ≡ true
      → Some (larger_of hs o k) ≡ Some i
      → (i < suc k) × (p i ≡ true)
  unfolding larger_of
  larger_holds k None i h y e = let q : k ≡ i = cc in (omega arith, rw (← q) y)
  larger_holds k (Some m) i h y e =
      test (larger hs m k) (λ w. let q : k ≡ i = some_is (rw w at e) in (omega arith, rw (← q) y))
      (λ w. let q : m ≡ i = some_is (rw w at e) in let r = h m refl in (let l = r.0 in omega arith, rw (← q) r.1))

  pub largest_holds : (n i : ℕ) → largest_of p hs n ≡ Some i → (i < n) × (p i ≡ true)
  unfolding largest_of
  largest_holds zero i e = let z : ◌≡◌ {A = ℕ} 0 1 = cc in let f : ⊥ = omega arith in absurd f
  largest_holds (suc n) i e =
      test (p n) (λ y. larger_holds n (largest_of p hs n) i (λ m. largest_holds n m) y (rw y at e))
      (λ y. let r = largest_holds n i (rw y at e) in (let l = r.0 in omega arith, r.1))

  -- ---- where one of the first n passes it, there is a largest
  pub largest_some : (n i : ℕ) → i < n → p i ≡ true → (k : ℕ) × (largest_of p hs n ≡ Some k)
  unfolding largest_of
  largest_some zero i l y = let f : ⊥ = omega arith in absurd f
  largest_some (suc n) i l y =
      test (p n) (λ t. (larger_of hs (largest_of p hs n) n, rw t refl))
      (λ t.
      test (eqb i n) (λ e. absurd (true≢false (sym y ∙ rw (eqb-true i n e) t)))
      (λ e. let r = largest_some n i (let d = eqb-false i n e in omega arith) y in (r.0, rw t r.1)))
