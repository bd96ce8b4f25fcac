-- Laws of numbers that fit, and of tests that hold. Assumes nothing.
use mathlib.Core.Path.{◌≡◌, refl, sym, subst}
use mathlib.Core.Bool.{Bool, true, false, ◌&&◌}
use mathlib.Core.List.{List, [], ◌∷◌}
use Prim.Native.Nat.{ℕ, zero, suc, ◌*◌, ◌/◌, ◌≤◌}
use native.Mathlib.Omega.{arith}
use lib.Dec.{T}
use lib.ListN.{get_or}
use Rattle.rules.specs.Tests.{all}

-- n records of w bytes lie in a table that has space for b of them
pub within24 : (n b l : ℕ) → n ≤ b → b ≤ l / 24 → n * 24 ≤ l
within24 n b l h g = omega arith

pub within8 : (n b l : ℕ) → n ≤ b → b ≤ l / 8 → n * 8 ≤ l
within8 n b l h g = omega arith

pub within4 : (n b l : ℕ) → n ≤ b → b ≤ l / 4 → n * 4 ≤ l
within4 n b l h g = omega arith

pub within16 : (n b l : ℕ) → n ≤ b → b ≤ l / 16 → n * 16 ≤ l
within16 n b l h g = omega arith

-- each test of `all` holds
pub test : (bs : List Bool) → all bs ≡ true → (i : ℕ) → get_or bs i true ≡ true
unfolding all
test [] e i = refl
test (true ∷ bs) e zero = refl
test (true ∷ bs) e (suc i) = test bs e i
test (false ∷ bs) e i = absurd (subst T (sym e) tt)

pub first : (a b : Bool) → (a && b) ≡ true → a ≡ true
first true b e = refl
first false b e = e

pub second : (a b : Bool) → (a && b) ≡ true → b ≡ true
second true b e = e
second false b e = absurd (subst T (sym e) tt)
