-- Laws of walks, of sections in the order of an LSN, of the last of a list and of lists with one more. Assumes nothing.
use mathlib.Core.Path.{◌≡◌, refl, ap}
use mathlib.Core.Bool.{Bool, true, ◌&&◌}
use mathlib.Core.Logic.{⊎_elim, ◌⊎◌, inl, inr}
use mathlib.Core.List.{List, [], ◌∷◌, ◌++◌}
use Prim.Native.Nat.{ℕ, zero, suc, ◌+◌, ◌-◌, ◌<◌, ◌≤◌}
use native.Mathlib.Omega.{arith}
use lib.ListN.{length, take, drop, get_or, set, length-append, take-append-drop}
use lib.Seq.{get_or_at, set-append_seam}
use borrow.Author.Tests.{leb-true, ltb-true, le-leb, lt-ltb}
use Rattle.field.proofs.Format.{Each, none, one}
use Rattle.rules.specs.Tests.{walk, last_or}
use Rattle.rules.specs.Sections.{rising_ok, risen, rising}
use Rattle.rules.proofs.Tests.{and_left, and_right, and_assoc, both, all→, →all}

-- ---- one more
-- a list that is not empty is its first part and its last
pub record Snoc {A : Type 0} (xs : List A) : Type 0 where
  pub init : List A
  pub last : A
  pub is : xs ≡ init ++ (last ∷ [])

pub ends : {A : Type 0} (xs : List A) → (xs ≡ []) ⊎ Snoc xs
ends [] = inl refl
ends (x ∷ xs) =
    inr (⊎_elim (λ (e : xs ≡ []). record { init = []; last = x; is = ap (λ (l : List _). x ∷ l) e })
    (λ (s : Snoc xs). record { init = x ∷ s.init; last = s.last; is = ap (λ (l : List _). x ∷ l) s.is }) (ends xs))

module _ {A : Type 0} where
  pub length_snoc : (xs : List A) (x : A) → length (xs ++ (x ∷ [])) ≡ length xs + 1
  length_snoc xs x = length-append xs (x ∷ [])

  pub last_or_none : (z : A) → last_or z [] ≡ z
  unfolding last_or
  last_or_none z = refl

  pub last_or_snoc : (z : A) (xs : List A) (x : A) → last_or z (xs ++ (x ∷ [])) ≡ x
  unfolding last_or
  last_or_snoc z xs x = get_or_at xs x [] z _ (omega (arith, length_snoc xs x))

  pub set_last : (xs : List A) (x y : A) → set (xs ++ (x ∷ [])) (length (xs ++ (x ∷ [])) - 1) y ≡ xs ++ (y ∷ [])
  set_last xs x y =
      let e : length (xs ++ (x ∷ [])) - 1 ≡ length xs = omega (arith, length_snoc xs x) in rw e (set-append_seam xs x [] y)

-- ---- walks
-- the state after xs
unfoldable pub arrived : {S A : Type 0} → (S → A → S) → S → List A → S
arrived next s [] = s
arrived next s (x ∷ xs) = arrived next (next s x) xs

module _ {S A : Type 0} (next : S → A → S) where
  pub arrived_none : (s : S) → arrived next s [] ≡ s
  unfolding arrived
  arrived_none s = refl

  pub arrived_cons : (s : S) (x : A) (xs : List A) → arrived next s (x ∷ xs) ≡ arrived next (next s x) xs
  unfolding arrived
  arrived_cons s x xs = refl

  pub arrived_snoc : (s : S) (xs : List A) (x : A) → arrived next s (xs ++ (x ∷ [])) ≡ next (arrived next s xs) x
  unfolding arrived
  arrived_snoc s [] x = refl
  arrived_snoc s (y ∷ xs) x = arrived_snoc (next s y) xs x

module _ {S A : Type 0} (ok : S → A → Bool) (next : S → A → S) where
  pub walk_none : (s : S) → walk ok next s [] ≡ true
  unfolding walk
  walk_none s = refl

  pub walk_cons : (s : S) (x : A) (xs : List A) → ok s x ≡ true → walk ok next (next s x) xs ≡ true → walk ok next s (x ∷ xs) ≡ true
  unfolding walk
  walk_cons s x xs h t = both h t

  pub walk_head : (s : S) (x : A) (xs : List A) → walk ok next s (x ∷ xs) ≡ true → ok s x ≡ true
  unfolding walk
  walk_head s x xs h = and_left (ok s x) (walk ok next (next s x) xs) h

  pub walk_tail : (s : S) (x : A) (xs : List A) → walk ok next s (x ∷ xs) ≡ true → walk ok next (next s x) xs ≡ true
  unfolding walk
  walk_tail s x xs h = and_right (ok s x) (walk ok next (next s x) xs) h

  -- a walk over two lists is a walk over the first and one over the second
  pub walk_append : (s : S) (xs ys : List A) → walk ok next s (xs ++ ys) ≡ (walk ok next s xs && walk ok next (arrived next s xs) ys)
  unfolding walk arrived
  walk_append s [] ys = refl
  walk_append s (x ∷ xs) ys = rw (walk_append (next s x) xs ys) (and_assoc (ok s x) _ _)

  pub walk_left : (s : S) (xs ys : List A) → walk ok next s (xs ++ ys) ≡ true → walk ok next s xs ≡ true
  walk_left s xs ys e = and_left (walk ok next s xs) (walk ok next (arrived next s xs) ys) (rw (walk_append s xs ys) at e)

  pub walk_right : (s : S) (xs ys : List A) → walk ok next s (xs ++ ys) ≡ true → walk ok next (arrived next s xs) ys ≡ true
  walk_right s xs ys e = and_right (walk ok next s xs) (walk ok next (arrived next s xs) ys) (rw (walk_append s xs ys) at e)

  pub walk_join : (s : S) (xs ys : List A) → walk ok next s xs ≡ true → walk ok next (arrived next s xs) ys ≡ true → walk ok next s (xs ++ ys) ≡ true
  walk_join s xs ys h t = rw (walk_append s xs ys) (both h t)

  pub walk_snoc : (s : S) (xs : List A) (x : A) → walk ok next s xs ≡ true → ok (arrived next s xs) x ≡ true → walk ok next s (xs ++ (x ∷ [])) ≡ true
  walk_snoc s xs x h t = walk_join s xs (x ∷ []) h (walk_cons (arrived next s xs) x [] t (walk_none _))

  pub walk_last : (s : S) (xs : List A) (x : A) → walk ok next s (xs ++ (x ∷ [])) ≡ true → ok (arrived next s xs) x ≡ true
  walk_last s xs x e = walk_head (arrived next s xs) x [] (walk_right s xs (x ∷ []) e)

  pub walk_take : (n : ℕ) (s : S) (xs : List A) → walk ok next s xs ≡ true → walk ok next s (take n xs) ≡ true
  walk_take n s xs e = walk_left s (take n xs) (drop n xs) (rw (take-append-drop n xs) e)

  -- each is in order in the state that those before it leave
  pub walk_at : (d : A) (s : S) (xs : List A) (i : ℕ) → walk ok next s xs ≡ true → i < length xs → ok (arrived next s (take i xs)) (get_or xs i d) ≡ true
  walk_at d s [] i e l = let z : ⊥ = omega arith in absurd z
  walk_at d s (x ∷ xs) zero e l = rw (arrived_none next s) (walk_head s x xs e)
  walk_at d s (x ∷ xs) (suc i) e l = rw (arrived_cons next s x (take i xs)) (walk_at d (next s x) xs i (walk_tail s x xs e) (omega arith))

-- a rule that asks less
pub walk_weaken : {S A : Type 0} (ok ok' : S → A → Bool) (next : S → A → S) → ((s : S) (x : A) → ok s x ≡ true → ok' s x ≡ true) → (s : S) (xs : List A) → walk ok next s xs ≡ true
    → walk ok' next s xs ≡ true
walk_weaken ok ok' next w s [] e = walk_none ok' next s
walk_weaken ok ok' next w s (x ∷ xs) e =
    walk_cons ok' next s x xs (w s x (walk_head ok next s x xs e)) (walk_weaken ok ok' next w (next s x) xs (walk_tail ok next s x xs e))

-- a fact of each, where I holds of the state and the number of things that are left
module _ {S A : Type 0} (ok : S → A → Bool) (next : S → A → S) (I : S → ℕ → Type 0) (P : A → Type 0)
    (step : (s : S) (x : A) (n : ℕ) → I s (suc n) → ok s x ≡ true → P x × I (next s x) n) where
  pub walk_state : (s : S) (xs : List A) → I s (length xs) → walk ok next s xs ≡ true → Each P xs
  walk_state s [] i h = none
  walk_state s (x ∷ xs) i h =
      let f = step s x (length xs) i (walk_head ok next s x xs h) in one f.0 (walk_state (next s x) xs f.1 (walk_tail ok next s x xs h))

pub walk_each : {S A : Type 0} (ok : S → A → Bool) (next : S → A → S) {P : A → Type 0} → ((s : S) (x : A) → ok s x ≡ true → P x)
    → (s : S) (xs : List A) → walk ok next s xs ≡ true → Each P xs
walk_each ok next {P} f s xs h = walk_state ok next (λ s n. Unit {0}) P (λ s x n i g. (f s x g, tt)) s xs tt h

-- a key that each state bounds from below, and that rises by at least d from one to the next
module _ {S A : Type 0} (ok : S → A → Bool) (next : S → A → S) (key : A → ℕ) (floor : S → ℕ) (d : ℕ) (low : (s : S) (x : A) → ok s x ≡ true → floor s ≤ key x)
    (step : (s : S) (x : A) → floor (next s x) ≡ d + key x) (z : A) where
  pub walk_low : (s : S) (xs : List A) (i : ℕ) → walk ok next s xs ≡ true → i < length xs → floor s ≤ key (get_or xs i z)
  walk_low s [] i e l = let w : ⊥ = omega arith in absurd w
  walk_low s (x ∷ xs) zero e l = low s x (walk_head ok next s x xs e)
  walk_low s (x ∷ xs) (suc i) e l =
      let a = low s x (walk_head ok next s x xs e) in let b = step s x in let c = walk_low (next s x) xs i (walk_tail ok next s x xs e) (omega arith) in omega arith

  pub walk_rises : (s : S) (xs : List A) (i j : ℕ) → walk ok next s xs ≡ true → i < j → j < length xs → d + key (get_or xs i z) ≤ key (get_or xs j z)
  walk_rises s [] i j e l m = let w : ⊥ = omega arith in absurd w
  walk_rises s (x ∷ xs) i zero e l m = let w : ⊥ = omega arith in absurd w
  walk_rises s (x ∷ xs) zero (suc j) e l m = let b = step s x in let c = walk_low (next s x) xs j (walk_tail ok next s x xs e) (omega arith) in omega arith
  walk_rises s (x ∷ xs) (suc i) (suc j) e l m = walk_rises (next s x) xs i j (walk_tail ok next s x xs e) (omega arith) (omega arith)

-- ---- sections in the order of an LSN
module _ {A : Type 0} (key : A → ℕ) (ok : A → Bool) (end : ℕ) where
  pub risen→ : (s : ℕ) (x : A) → rising_ok key ok end s x ≡ true → (s ≤ key x) × (key x < end) × (ok x ≡ true)
  unfolding rising_ok
  risen→ s x e = let h = all→ _ e in (leb-true _ _ h.0, ltb-true _ _ h.1.0, h.1.1.0)

  pub →risen : (s : ℕ) (x : A) → s ≤ key x → key x < end → ok x ≡ true → rising_ok key ok end s x ≡ true
  unfolding rising_ok
  →risen s x l h o = →all _ (le-leb _ _ l, (lt-ltb _ _ h, (o, tt)))

  pub rising_each : (s : ℕ) (xs : List A) → walk (rising_ok key ok end) (risen key) s xs ≡ true → Each (λ x. (key x < end) × (ok x ≡ true)) xs
  rising_each s xs h = walk_each (rising_ok key ok end) (risen key) (λ s x g. let h = risen→ s x g in (h.1, h.2)) s xs h

module _ {A : Type 0} (key : A → ℕ) (ok : A → Bool) (end : ℕ) (z : A) where
  -- by place
  pub rising_at : (s : ℕ) (xs : List A) (i : ℕ) → rising key ok s end xs ≡ true → i < length xs → (s ≤ key (get_or xs i z)) × (key (get_or xs i z) < end) × (ok (get_or xs i z) ≡ true)
  unfolding rising
  rising_at s [] i e l = let w : ⊥ = omega arith in absurd w
  rising_at s (x ∷ xs) zero e l = risen→ key ok end s x (walk_head (rising_ok key ok end) (risen key) s x xs e)
  rising_at s (x ∷ xs) (suc i) e l =
      let a = (risen→ key ok end s x (walk_head (rising_ok key ok end) (risen key) s x xs e)).0 in
      let b = rising_at (suc (key x)) xs i (walk_tail (rising_ok key ok end) (risen key) s x xs e) (omega arith) in
      (let c = b.0 in omega arith, b.1, b.2)

  pub rising_rises : (s : ℕ) (xs : List A) (i j : ℕ) → rising key ok s end xs ≡ true → i < j → j < length xs → key (get_or xs i z) < key (get_or xs j z)
  unfolding rising
  rising_rises s xs i j e l m =
      let w = walk_rises (rising_ok key ok end) (risen key) key (λ s. s) 1 (λ s x e. (risen→ key ok end s x e).0) (λ s x. omega arith) z s xs i j e l m in omega arith

  pub rising_of : (s : ℕ) (xs : List A) → ((i : ℕ) → i < length xs → (s ≤ key (get_or xs i z)) × (key (get_or xs i z) < end) × (ok (get_or xs i z) ≡ true))
      → ((i j : ℕ) → i < j → j < length xs → key (get_or xs i z) < key (get_or xs j z)) → rising key ok s end xs ≡ true
  unfolding rising
  rising_of s [] h r = walk_none (rising_ok key ok end) (risen key) s
  rising_of s (x ∷ xs) h r =
      let a = h zero (omega arith) in
      walk_cons (rising_ok key ok end) (risen key) s x xs (→risen key ok end s x a.0 a.1 a.2)
      (rising_of (suc (key x)) xs (λ i l. let b = h (suc i) (omega arith) in (r zero (suc i) (omega arith) (omega arith), b.1, b.2)) (λ i j l m. r (suc i) (suc j) (omega arith) (omega arith)))
