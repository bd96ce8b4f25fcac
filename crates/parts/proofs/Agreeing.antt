-- Agreement over the shorter length, as a comparison of bytes. Assumes nothing.
use mathlib.Core.Path.{◌≡◌, refl}
use mathlib.Core.List.{List, [], ◌∷◌}
use Prim.Native.Nat.{ℕ, zero, suc, ◌+◌, ◌-◌, ◌≤◌, min}
use native.Mathlib.Omega.{arith}
use lib.Dec.{eqb}
use lib.ListN.{length, take, drop, length-drop}
use lib.Seq.{take-take, length-take-le}
use Rattle.field.specs.Number.{same_bytes}
use Rattle.rules.specs.Tests.{agrees}

agree_take : (n : ℕ) (xs ys : List ℕ) → n ≡ min (length xs) (length ys)
    → same_bytes (take n xs) (take n ys) ≡ agrees eqb xs ys
unfolding agrees same_bytes
agree_take zero [] ys e = refl
agree_take (suc n) [] ys e = let z : ⊥ = omega arith in absurd z
agree_take zero (x ∷ xs) [] e = refl
agree_take (suc n) (x ∷ xs) [] e = let z : ⊥ = omega arith in absurd z
agree_take zero (x ∷ xs) (y ∷ ys) e = let z : ⊥ = omega arith in absurd z
agree_take (suc n) (x ∷ xs) (y ∷ ys) e = rw (agree_take n xs ys (omega arith))

-- the first c bytes from a on, where len bytes lie there
pub agree_by : (store b : List ℕ) (len used c a e : ℕ) → len ≤ used → used ≤ length store → c ≡ min len (length b)
    → a ≡ used - len → e ≡ a + c
    → same_bytes (take (e - a) (drop a store)) (take c b)
    ≡ agrees eqb (take len (drop (used - len) store)) b
agree_by store b len used c a e l u ec ea ee =
    let x = drop (used - len) store in
    let n : length (take len x) ≡ len = length-take-le len x (simp length-drop (omega arith)) in
    let q : c ≡ min (length (take len x)) (length b) = omega arith in
    let k : e - a ≡ c = omega arith in
    rw (k, ea, ← take-take c len x (omega arith)) (agree_take c (take len x) b q)
