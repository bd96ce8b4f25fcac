-- Laws of lists of bytes: stretches, stores, copies and equality. Assumes nothing.
use mathlib.Core.Path.{◌≡◌, refl, sym, subst}
use mathlib.Core.Bool.{Bool, true, false, ◌&&◌}
use mathlib.Core.List.{List, [], ◌∷◌, ◌++◌}
use Prim.Native.Nat.{ℕ, zero, suc, ◌+◌, ◌<◌}
use native.Mathlib.Nat.{add-zero, zero-add}
use native.Mathlib.Numerals.{add-one}
use native.Mathlib.Omega.{arith}
use borrow.Author.Tests.{eqb-true, eq-eqb}
use lib.Dec.{T, eqb}
use lib.ListN.{length, take, drop, get_or, set}
use lib.Seq.{sets, get_or-drop, take-suc, drop-cons, append_snoc, set_at, length-take-le, drop-drop, take-add, take-nil}
use Rattle.field.specs.Number.{same_bytes}
use Rattle.field.specs.Records.{Bytes}

-- ---- bytes
pub bytes_drop : (t : List ℕ) (k : ℕ) → Bytes t → Bytes (drop k t)
bytes_drop t k h i = rw get_or-drop (h (k + i))

pub bytes_take : (t : List ℕ) (k : ℕ) → Bytes t → Bytes (take k t)
bytes_take t zero h i = omega arith
bytes_take [] (suc k) h i = omega arith
bytes_take (x ∷ t) (suc k) h zero = h 0
bytes_take (x ∷ t) (suc k) h (suc i) = bytes_take t k (λ j. h (suc j)) i

pub bytes_part : (t : List ℕ) (k n : ℕ) → Bytes t → Bytes (take n (drop k t))
bytes_part t k n h = bytes_take (drop k t) n (bytes_drop t k h)

pub bytes_append : (s t : List ℕ) → Bytes s → Bytes t → Bytes (s ++ t)
bytes_append [] t h g i = g i
bytes_append (x ∷ s) t h g zero = h 0
bytes_append (x ∷ s) t h g (suc i) = bytes_append s t (λ j. h (suc j)) g i

pub bytes_set : (t : List ℕ) (i v : ℕ) → Bytes t → v < 256 → Bytes (set t i v)
bytes_set [] i v h g k = h k
bytes_set (x ∷ t) zero v h g zero = g
bytes_set (x ∷ t) zero v h g (suc k) = h (suc k)
bytes_set (x ∷ t) (suc i) v h g zero = h 0
bytes_set (x ∷ t) (suc i) v h g (suc k) = bytes_set t i v (λ j. h (suc j)) g k

pub bytes_sets : (vs t : List ℕ) (i : ℕ) → Bytes t → Bytes vs → Bytes (sets t i vs)
bytes_sets [] t i h g = h
bytes_sets (v ∷ vs) t i h g = bytes_sets vs (set t i v) (suc i) (bytes_set t i v h (g 0)) (λ j. g (suc j))

-- ---- stretches
pub drop_take : {A : Type 0} (n m : ℕ) (l : List A) → drop n (take (n + m) l) ≡ take m (drop n l)
drop_take zero m l = rw zero-add
drop_take (suc n) m [] = let e : suc n + m ≡ suc (n + m) = omega arith in rw (e, take-nil)
drop_take (suc n) m (x ∷ l) = let e : suc n + m ≡ suc (n + m) = omega arith in rw e (drop_take n m l)

-- two stretches that follow one another
pub stretch_join : {A : Type 0} (t : List A) (k m n : ℕ) → take m (drop k t) ++ take n (drop (k + m) t) ≡ take (m + n) (drop k t)
stretch_join t k m n = rw (← drop-drop m k t, ← take-add m n (drop k t))

-- ---- stores
-- a run of stores, and another after it
pub sets_more : (xs ys l : List ℕ) (i : ℕ) → sets (sets l i xs) (i + length xs) ys ≡ sets l i (xs ++ ys)
sets_more [] ys l i = rw add-zero
sets_more (x ∷ xs) ys l i = let q : i + suc (length xs) ≡ suc i + length xs = omega arith in rw q (sets_more xs ys (set l i x) (suc i))

-- ---- equality of byte lists
pub same_refl : (a : List ℕ) → same_bytes a a ≡ true
unfolding same_bytes
same_refl [] = refl
same_refl (x ∷ a) = rw (eq-eqb x x refl) (same_refl a)

and_true : (p q : Bool) → (p && q) ≡ true → (p ≡ true) × (q ≡ true)
and_true true q e = (refl, e)
and_true false q e = absurd (subst T (sym e) tt)

pub same_true : (a b : List ℕ) → same_bytes a b ≡ true → a ≡ b
unfolding same_bytes
same_true [] [] e = refl
same_true [] (y ∷ b) e = absurd (subst T (sym e) tt)
same_true (x ∷ a) [] e = absurd (subst T (sym e) tt)
same_true (x ∷ a) (y ∷ b) e =
    let h = and_true (eqb x y) (same_bytes a b) e in
    rw (eqb-true x y h.0, same_true a b h.1)

never_true : (p : Bool) → (p ≡ true → ⊥) → p ≡ false
never_true true h = absurd (h refl)
never_true false h = refl

pub same_false : (a b : List ℕ) → (a ≡ b → ⊥) → same_bytes a b ≡ false
same_false a b h = never_true (same_bytes a b) (λ e. h (same_true a b e))

-- ---- copies
-- a turn of a copy: the store takes the copy of i bytes to the copy of one more
pub copied_more : (d s : List ℕ) (i : ℕ) → i < length d → i < length s → set (take i s ++ drop i d) i (get_or s i 0) ≡ take (i + 1) s ++ drop (i + 1) d
copied_more d s i hd hs =
    rw (add-one, take-suc s i 0 hs, append_snoc, drop-cons d i 0 hd) (set_at (take i s) (get_or d i 0) (drop (suc i) d) (get_or s i 0) i (length-take-le i s (omega arith)))
