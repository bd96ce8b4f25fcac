-- Lists that are the same are equal, and the other way round. Assumes nothing.
use mathlib.Core.Path.{◌≡◌, refl}
use mathlib.Core.Bool.{Bool, true, false}
use mathlib.Core.List.{List, [], ◌∷◌}
use borrow.Author.Tests.{eqb-true}
use Rattle.rules.specs.declared.Confirmation.{Confirmation}
use Rattle.rules.proofs.Tests.{never, test, and_left, and_right, both, all→, →all}
use Rattle.rules.proofs.Same.{eqb_self}
use Rattle.adds.specs.Adds.{same_list, same_confirmation}

-- a test that fails where two values differ
pub differ : {A : Type 0} (same : A → A → Bool) → ((a b : A) → same a b ≡ true → a ≡ b) → (a b : A) → (a ≡ b → ⊥)
    → same a b ≡ false
differ same eq a b h = test (same a b) (λ e. absurd (h (eq a b e))) (λ e. e)

module _ {A : Type 0} (same : A → A → Bool) where
  pub same_list_self : ((a : A) → same a a ≡ true) → (xs : List A) → same_list same xs xs ≡ true
  unfolding same_list
  same_list_self self [] = refl
  same_list_self self (x ∷ xs) = both {a = same x x} (self x) (same_list_self self xs)

  pub same_list_eq : ((a b : A) → same a b ≡ true → a ≡ b) → (xs ys : List A) → same_list same xs ys ≡ true → xs ≡ ys
  unfolding same_list
  same_list_eq eq [] [] e = refl
  same_list_eq eq [] (y ∷ ys) e = never {b = false} e refl
  same_list_eq eq (x ∷ xs) [] e = never {b = false} e refl
  same_list_eq eq (x ∷ xs) (y ∷ ys) e =
      let p = eq x y (and_left (same x y) (same_list same xs ys) e) in
      let q = same_list_eq eq xs ys (and_right (same x y) (same_list same xs ys) e) in
      λ i. p i ∷ q i

pub same_confirmation_self : (c : Confirmation) → same_confirmation c c ≡ true
unfolding same_confirmation
same_confirmation_self c = →all _ (eqb_self c.lsn, (eqb_self c.threshold, (eqb_self c.digest, tt)))

pub same_confirmation_eq : (c d : Confirmation) → same_confirmation c d ≡ true → c ≡ d
unfolding same_confirmation
same_confirmation_eq c d e =
    let t = all→ _ e in
    let e0 : c.lsn ≡ d.lsn = eqb-true _ _ t.0 in
    let e1 : c.threshold ≡ d.threshold = eqb-true _ _ t.1.0 in
    let e2 : c.digest ≡ d.digest = eqb-true _ _ t.1.1.0 in
    λ i. record { lsn = e0 i; threshold = e1 i; digest = e2 i }
