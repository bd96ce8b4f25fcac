-- Laws of the tests of one record. Assumes nothing.
use mathlib.Core.Path.{◌≡◌, refl, sym, subst}
use mathlib.Core.Bool.{Bool, true, false, ◌&&◌, ◌||◌, and-true}
use Prim.Native.Nat.{ℕ, ◌+◌, ◌*◌, ◌-◌, ◌^◌, ◌<◌, ◌≤◌}
use native.Mathlib.Nat.{mul-le-mul}
use native.Mathlib.Numerals.{add-one}
use native.Mathlib.Omega.{arith}
use borrow.Author.Tests.{leb-true, leb-false, le-leb, lt-leb}
use lib.Dec.{T, eqb, leb, ltb}
use Rattle.rules.specs.declared.Held.{Held}
use Rattle.rules.specs.Tests.{all}
use Rattle.rules.specs.Values.{same_kind}
use Rattle.rules.specs.Sections.{rising_ok, follows}
use Rattle.tables.specs.Tables.{before}

pub product_most : (j k : ℕ) → j < 4294967296 → k < 4294967296 → j * k ≤ 18446744065119617025
product_most j k hj hk =
    let a : j ≤ 4294967295 = omega arith in
    let b : k ≤ 4294967295 = omega arith in
    omega (arith, mul-le-mul a b)

pub product_fits : (j k : ℕ) → j < 4294967296 → k < 4294967296 → j * k < 2 ^ 64
product_fits j k hj hk = omega (arith, product_most j k hj hk)

-- at most what is left
leb_by : (a b c : ℕ) (t : Bool) → leb b (c - a) ≡ t → a ≤ c → leb (a + b) c ≡ t
leb_by a b c true e h = let l = leb-true b (c - a) e in le-leb (a + b) c (omega arith)
leb_by a b c false e h = let l = leb-false b (c - a) e in lt-leb (a + b) c (omega arith)

pub leb_left : (a b c : ℕ) → a ≤ c → leb b (c - a) ≡ leb (a + b) c
leb_left a b c h = sym (leb_by a b c (leb b (c - a)) refl h)

pub rising_is : {A : Type 0} (key : A → ℕ) (ok : A → Bool) (end s : ℕ) (x : A) → rising_ok key ok end s x ≡ (leb s (key x) && (ltb (key x) end && ok x))
unfolding rising_ok all
rising_is key ok end s x = simp and-true

-- what the last of a frame's tests says
pub leb_within : (p q r : Bool) (n m : ℕ) → (p && (q && (r && leb n m))) ≡ true → n ≤ m
leb_within true true true n m e = leb-true n m e
leb_within false q r n m e = absurd (subst T (sym e) tt)
leb_within true false r n m e = absurd (subst T (sym e) tt)
leb_within true true false n m e = absurd (subst T (sym e) tt)

-- a part that is not the first
pub follows_is : (first : Bool) (q p : Held) → first ≡ false
    → follows (before first q) p
    ≡ (ltb q.at p.at
    && ((eqb p.frame q.frame && (leb q.len p.len && (eqb q.number p.number && same_kind q.kind p.kind))) || eqb p.frame (q.frame + 1)))
unfolding follows before all
follows_is first q p e = rw e (simp (and-true, add-one))
