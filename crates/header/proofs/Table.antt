-- The rule of the table of fields: one test over the whole table, and what it says of each entry. Assumes nothing.
use mathlib.Core.Path.{◌≡◌, refl}
use mathlib.Core.Bool.{Bool, true, ◌&&◌, ◌||◌, and-eq-true_iff}
use mathlib.Core.List.{List, [], ◌∷◌, map}
use Prim.Native.Nat.{ℕ, zero, suc, ◌+◌, ◌<◌}
use native.Mathlib.Omega.{arith}
use borrow.Author.Tests.{eqb-true, ne_eqb}
use lib.Dec.{eqb}
use lib.ListN.{length, get_or}
use Rattle.rules.specs.File.{Field}
use Rattle.header.specs.declared.Field.{Field as Entry}
use Rattle.header.specs.Place.{total, Placed}

-- a field as the code has it
abbrev pub made : Field → Entry
made f = record { offset = f.offset; width = f.width }

-- is a width one of those that are read and written?
abbrev known : ℕ → Bool
known w = eqb w 8 || (eqb w 4 || eqb w 1)

single : (w : ℕ) → known w ≡ true → (w ≡ 8 → ⊥) → (w ≡ 4 → ⊥) → w ≡ 1
single w h a b = eqb-true w 1 (simp (ne_eqb w 8 a, ne_eqb w 4 b) at h)

-- do fields lie one behind the other from byte at up to byte 80?
abbrev pub sound : ℕ → List Field → Bool
sound at [] = eqb at 80
sound at (f ∷ fs) = eqb f.offset at && (known f.width && sound (at + f.width) fs)

-- what the test says of the first field
record First (at : ℕ) (f : Field) (fs : List Field) : Type 0 where
  here : f.offset ≡ at
  one : known f.width ≡ true
  rest : sound (at + f.width) fs ≡ true

first : (at : ℕ) (f : Field) (fs : List Field) → sound at (f ∷ fs) ≡ true → First at f fs
first at f fs h =
    let a = (and-eq-true_iff _ _).0 h in
    let b = (and-eq-true_iff _ _).0 a.1 in
    record { here = eqb-true _ _ a.0; one = b.0; rest = b.1 }

-- the last ends at 80
pub ends : (at : ℕ) (fs : List Field) → sound at fs ≡ true → at + total fs ≡ 80
ends at [] h = omega (arith, eqb-true at 80 h)
ends at (f ∷ fs) h = omega (arith, ends (at + f.width) fs (first at f fs h).rest)

-- each entry is the field of its number, at the sum of the widths before it
pub placed : (at : ℕ) (fs : List Field) → sound at fs ≡ true → (i : ℕ) → i < length fs → (z : Entry)
    → Placed fs at i (get_or (map made fs) i z).offset (get_or (map made fs) i z).width
placed at [] h i l z = let q : ⊥ = omega arith in absurd q
placed at (f ∷ fs) h zero l z =
    let p = first at f fs h in
    record {
      place = refl;
      size = refl;
      sum = omega arith;
      within = omega (arith, ends at (f ∷ fs) h);
      single = single f.width p.one;
    }
placed at (f ∷ fs) h (suc i) l z =
    let p = placed (at + f.width) fs (first at f fs h).rest i (omega arith) z in
    record { place = p.place; size = p.size; sum = omega arith; within = p.within; single = p.single }
