-- A loop over the records of a table that answers a function of the list. Assumes nothing.
use mathlib.Core.Path.{◌≡◌, refl, sym, ap, ◌∙◌}
use mathlib.Core.List.{List, [], ◌∷◌}
use Prim.Native.Nat.{ℕ, ◌+◌, ◌<◌, ◌≤◌}
use native.Mathlib.Omega.{arith}
use lib.ListN.{length, drop, drop_of_length-le}
use Rattle.field.specs.Records.{records, record_at}
use Rattle.field.proofs.Records.{records_length}
use Rattle.tables.proofs.Walk.{records_turn}

-- f of what follows the first j records is the answer x
pub record Rest {A B : Type 0} (w : ℕ) (d : List ℕ → A) (n : ℕ) (t : List ℕ) (f : List A → B) (x : B) (j : ℕ) : Type 0 where
  pub within : j ≤ n
  pub rest : f (drop j (records w d n t)) ≡ x

pub rest_start : {A B : Type 0} (w : ℕ) (d : List ℕ → A) (n : ℕ) (t : List ℕ) (f : List A → B) (j : ℕ) → j ≤ n → Rest w d n t f (f (drop j (records w d n t))) j
rest_start w d n t f j l = record { within = l; rest = refl }

module _ {A B : Type 0} {w : ℕ} {d : List ℕ → A} {n : ℕ} {t : List ℕ} {f : List A → B} {x : B} {j : ℕ} (k : Rest w d n t f x j) where
  at : {c : A} → j < n → c ≡ record_at w d t j → f (c ∷ drop (j + 1) (records w d n t)) ≡ x
  at {c} l e = rw e (sym (ap f (records_turn w d n t j l)) ∙ k.rest)

  -- record j is passed, and g answers of the rest
  pub rest_on : {c : A} (g : List A → B) → j < n → c ≡ record_at w d t j → ((xs : List A) → f (c ∷ xs) ≡ g xs) → Rest w d n t g x (j + 1)
  rest_on g l e s = record { within = omega arith; rest = sym (s (drop (j + 1) (records w d n t))) ∙ at l e }

  -- record j decides
  pub rest_stop : {c : A} {y : B} → j < n → c ≡ record_at w d t j → ((xs : List A) → f (c ∷ xs) ≡ y) → y ≡ x
  rest_stop l e s = sym (s (drop (j + 1) (records w d n t))) ∙ at l e

  pub rest_end : n ≤ j → f [] ≡ x
  rest_end h =
      let l : length (records w d n t) ≤ j = rw records_length h in
      sym (ap f (drop_of_length-le (records w d n t) l)) ∙ k.rest
