-- Sub-lists in order, and what holds of each of a list. Assumes nothing.
use mathlib.Core.Path.{◌≡◌, refl}
use mathlib.Core.Bool.{Bool, true}
use mathlib.Core.List.{List, [], ◌∷◌, ◌++◌}
use Prim.Native.Nat.{ℕ, zero, suc, ◌+◌, ◌-◌, ◌<◌, ◌≤◌, min}
use native.Mathlib.Omega.{arith}
use lib.ListN.{length, get_or, take, drop, length-drop}
use borrow.Author.Tests.{lt-ltb, le-ltb}
use Rattle.field.proofs.Format.{Each, none, one}
use Rattle.rules.specs.Tests.{each}
use Rattle.rules.specs.Hints.{insert, last_ones}
use Rattle.laws.specs.Adding.{passing}
use Rattle.rules.proofs.Tests.{test, order, each_none, each_cons, each_head, each_tail}

-- ---- xs is ys without some, in the same order
pub data Sub {A : Type 0} : List A → List A → Type 0 where
  empty : Sub [] []
  same : {x : A} {xs ys : List A} → Sub xs ys → Sub (x ∷ xs) (x ∷ ys)
  skip : {x : A} {xs ys : List A} → Sub xs ys → Sub xs (x ∷ ys)

pub sub_none : {A : Type 0} (ys : List A) → Sub [] ys
sub_none [] = empty
sub_none (y ∷ ys) = skip (sub_none ys)

pub sub_self : {A : Type 0} (ys : List A) → Sub ys ys
sub_self [] = empty
sub_self (y ∷ ys) = same (sub_self ys)

pub sub_append : {A : Type 0} {xs ys us vs : List A} → Sub xs ys → Sub us vs → Sub (xs ++ us) (ys ++ vs)
sub_append empty r = r
sub_append (same s) r = same (sub_append s r)
sub_append (skip s) r = skip (sub_append s r)

pub sub_drop : {A : Type 0} (n : ℕ) (ys : List A) → Sub (drop n ys) ys
sub_drop zero ys = sub_self ys
sub_drop (suc n) [] = empty
sub_drop (suc n) (y ∷ ys) = skip (sub_drop n ys)

pub sub_take : {A : Type 0} (n : ℕ) (ys : List A) → Sub (take n ys) ys
sub_take zero ys = sub_none ys
sub_take (suc n) [] = empty
sub_take (suc n) (y ∷ ys) = same (sub_take n ys)

pub sub_length : {A : Type 0} {xs ys : List A} → Sub xs ys → length xs ≤ length ys
sub_length empty = omega arith
sub_length (same s) = omega (arith, sub_length s)
sub_length (skip s) = omega (arith, sub_length s)

-- ---- those that pass
pub sub_passing : {A : Type 0} (p : A → Bool) (xs : List A) → Sub (passing p xs) xs
unfolding passing
sub_passing p [] = empty
sub_passing p (x ∷ xs) = test (p x) (λ e. rw e (same (sub_passing p xs))) (λ e. rw e (skip (sub_passing p xs)))

-- ---- the last ones
pub sub_last : {A : Type 0} (n : ℕ) (ys : List A) → Sub (last_ones n ys) ys
unfolding last_ones
sub_last n ys = sub_drop (length ys - n) ys

pub last_length : {A : Type 0} (n : ℕ) (xs : List A) → length (last_ones n xs) ≡ min (length xs) n
unfolding last_ones
last_length n xs = omega (arith, length-drop (length xs - n) xs)

-- ---- P holds of each
abbrev pub All : {A : Type 0} → (A → Type 0) → List A → Type 0
All P [] = Unit {0}
All P (x ∷ xs) = P x × All P xs

module _ {A : Type 0} (P : A → Type 0) where
  pub all_sub : {xs ys : List A} → Sub xs ys → All P ys → All P xs
  all_sub empty h = tt
  all_sub (same s) h = (h.0, all_sub s h.1)
  all_sub (skip s) h = all_sub s h.1

  pub all_of : {xs : List A} → Each P xs → All P xs
  all_of none = tt
  all_of (one p ps) = (p, all_of ps)

  pub all_append : (xs ys : List A) → All P xs → All P ys → All P (xs ++ ys)
  all_append [] ys h k = k
  all_append (x ∷ xs) ys h k = (h.0, all_append xs ys h.1 k)

  pub all_split : (xs ys : List A) → All P (xs ++ ys) → All P xs × All P ys
  all_split [] ys h = (tt, h)
  all_split (x ∷ xs) ys h = let r = all_split xs ys h.1 in ((h.0, r.0), r.1)

  pub all_at : (xs : List A) (i : ℕ) (d : A) → i < length xs → All P xs → P (get_or xs i d)
  all_at [] i d l h = let z : ⊥ = omega arith in absurd z
  all_at (x ∷ xs) zero d l h = h.0
  all_at (x ∷ xs) (suc i) d l h = all_at xs i d (omega arith) h.1

  pub all_map : (Q : A → Type 0) → ((x : A) → P x → Q x) → (xs : List A) → All P xs → All Q xs
  all_map Q f [] h = tt
  all_map Q f (x ∷ xs) h = (f x h.0, all_map Q f xs h.1)

  pub all_both : (Q : A → Type 0) (xs : List A) → All P xs → All Q xs → All (λ x. P x × Q x) xs
  all_both Q [] h k = tt
  all_both Q (x ∷ xs) h k = ((h.0, k.0), all_both Q xs h.1 k.1)

-- ---- a test of each
abbrev pub Passes : {A : Type 0} → (A → Bool) → List A → Type 0
Passes p xs = All (λ x. p x ≡ true) xs

pub each→ : {A : Type 0} (p : A → Bool) (xs : List A) → each p xs ≡ true → Passes p xs
each→ p [] e = tt
each→ p (x ∷ xs) e = (each_head p x xs e, each→ p xs (each_tail p x xs e))

pub →each : {A : Type 0} (p : A → Bool) (xs : List A) → Passes p xs → each p xs ≡ true
→each p [] h = each_none p
→each p (x ∷ xs) h = each_cons p x xs h.0 (→each p xs h.1)

-- ---- insertion
module _ {A : Type 0} (key : A → ℕ) (meet : A → A → A) (x : A) where
  pub insert_none : insert key meet x [] ≡ x ∷ []
  unfolding insert
  insert_none = refl

  module _ (y : A) (ys : List A) where
    pub insert_here : key x < key y → insert key meet x (y ∷ ys) ≡ x ∷ y ∷ ys
    unfolding insert
    insert_here h = rw (lt-ltb (key x) (key y) h)

    pub insert_past : key y < key x → insert key meet x (y ∷ ys) ≡ y ∷ insert key meet x ys
    unfolding insert
    insert_past h = rw (le-ltb (key x) (key y) (omega arith), lt-ltb (key y) (key x) h)

    pub insert_met : key y ≡ key x → insert key meet x (y ∷ ys) ≡ meet y x ∷ ys
    unfolding insert
    insert_met h = rw (le-ltb (key x) (key y) (omega arith), le-ltb (key y) (key x) (omega arith))

    -- the three places where x can go
    pub insert_cases : (Q : List A → Type 0) → (key x < key y → Q (x ∷ y ∷ ys)) → (key y < key x → Q (y ∷ insert key meet x ys))
        → (key y ≡ key x → Q (meet y x ∷ ys)) → Q (insert key meet x (y ∷ ys))
    insert_cases Q f g h =
        order (key y) (key x) (λ e. rw (insert_past e) (g e)) (λ e. rw (insert_here e) (f e)) (λ e. rw (insert_met e) (h e))

  pub insert_length : (ys : List A) → length (insert key meet x ys) ≤ length ys + 1
  insert_length [] = rw insert_none (omega arith)
  insert_length (y ∷ ys) =
      insert_cases y ys (λ l. length l ≤ length (y ∷ ys) + 1) (λ e. omega arith) (λ e. omega (arith, insert_length ys)) (λ e. omega arith)

  -- what holds of x and of each, and of two that meet, holds of each afterwards
  pub all_insert : (P : A → Type 0) → P x → ((y : A) → key y ≡ key x → P y → P (meet y x)) → (ys : List A) → All P ys → All P (insert key meet x ys)
  all_insert P p m [] h = rw insert_none (p, tt)
  all_insert P p m (y ∷ ys) h =
      insert_cases y ys (All P) (λ e. (p, h)) (λ e. (h.0, all_insert P p m ys h.1)) (λ e. (m y e h.0, h.1))
