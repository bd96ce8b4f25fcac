-- Lists compared over the shorter length, as bytes. Assumes nothing.
use mathlib.Core.Path.{◌≡◌, refl, sym, ◌∙◌}
use mathlib.Core.Bool.{Bool, true}
use mathlib.Core.List.{List, [], ◌∷◌}
use Prim.Native.Nat.{ℕ, zero, suc, ◌*◌, ◌≤◌, min}
use native.Mathlib.Nat.{mul-le-mul_right}
use native.Mathlib.Omega.{arith}
use lib.ListN.{length, take}
use Rattle.field.specs.Number.{same_bytes}
use Rattle.field.specs.Records.{records, Bytes}
use Rattle.field.proofs.Format.{Layout, records_same_bytes, same_records}
use Rattle.field.proofs.Records.{records_length, take_records}
use Rattle.rules.specs.Tests.{agrees}
use Rattle.rules.proofs.Tests.{never, test, and_left, and_right, both}

module _ {A : Type 0} (same : A → A → Bool) where
  -- lists that agree have the same first elements
  agrees_first : ((a b : A) → same a b ≡ true → a ≡ b) → (k : ℕ) (xs ys : List A) → k ≤ length xs → k ≤ length ys → agrees same xs ys ≡ true → take k xs ≡ take k ys
  unfolding agrees
  agrees_first eq zero xs ys h g e = refl
  agrees_first eq (suc k) [] ys h g e = let z : ⊥ = omega arith in absurd z
  agrees_first eq (suc k) (x ∷ xs) [] h g e = let z : ⊥ = omega arith in absurd z
  agrees_first eq (suc k) (x ∷ xs) (y ∷ ys) h g e =
      let p = eq x y (and_left (same x y) (agrees same xs ys) e) in
      let q = agrees_first eq k xs ys (omega arith) (omega arith) (and_right (same x y) (agrees same xs ys) e) in
      λ i. p i ∷ q i

  -- and the other way round, where one of them has no more
  first_agrees : ((a : A) → same a a ≡ true) → (k : ℕ) (xs ys : List A) → min (length xs) (length ys) ≤ k → take k xs ≡ take k ys → agrees same xs ys ≡ true
  unfolding agrees
  first_agrees self k [] ys h e = refl
  first_agrees self k (x ∷ xs) [] h e = refl
  first_agrees self zero (x ∷ xs) (y ∷ ys) h e = let z : ⊥ = omega arith in absurd z
  first_agrees self (suc k) (x ∷ xs) (y ∷ ys) h e =
      let p : x ≡ y = cc in
      let q : take k xs ≡ take k ys = cc in
      both {a = same x y} (rw p (self y)) (first_agrees self k xs ys (omega arith) q)

-- two tables compared as bytes over the records that both have
module _ {A : Type 0} {w : ℕ} {d : List ℕ → A} {e : A → List ℕ} {Fits : A → Type 0} (l : Layout w d e Fits) (same : A → A → Bool)
    (eq : (a b : A) → same a b ≡ true → a ≡ b) (self : (a : A) → same a a ≡ true) (n m k : ℕ) (s t : List ℕ) where
  pub common_is : Bytes s → Bytes t → n * w ≤ length s → m * w ≤ length t → k ≡ min n m
      → same_bytes (take (k * w) s) (take (k * w) t) ≡ agrees same (records w d n s) (records w d m t)
  common_is a b h g q =
      let kn : k ≤ n = omega arith in
      let km : k ≤ m = omega arith in
      let hk : k * w ≤ length s = let p = mul-le-mul_right w kn in omega arith in
      let gk : k * w ≤ length t = let p = mul-le-mul_right w km in omega arith in
      test (same_bytes (take (k * w) s) (take (k * w) t))
      (λ y. y ∙ sym (first_agrees same self k (records w d n s) (records w d m t) (rw (records_length w d n s, records_length w d m t) (omega arith))
      (take_records w d k n s kn ∙ same_records l k s t y ∙ sym (take_records w d k m t km))))
      (λ z. test (agrees same (records w d n s) (records w d m t))
      (λ y. never (records_same_bytes l k s t a b hk gk
      (sym (take_records w d k n s kn) ∙ agrees_first same eq k (records w d n s) (records w d m t) (rw records_length kn) (rw records_length km) y
      ∙ take_records w d k m t km)) z)
      (λ y. z ∙ sym y))
