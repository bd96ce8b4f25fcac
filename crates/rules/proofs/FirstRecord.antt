-- What a first record tells. Assumes nothing.
use Rattle.std.specs.Prelude.{None, Some}
use mathlib.Core.Path.{◌≡◌, refl, subst}
use mathlib.Core.Bool.{Bool, true, false, ◌||◌, cond}
use Prim.Native.Nat.{ℕ, ◌+◌, ◌*◌}
use native.Mathlib.Omega.{arith}
use lib.Dec.{eqb, ltb}
use lib.ListN.{length, get_or}
use borrow.Author.Tests.{eqb-true, eqb-false, ltb-false, eq-eqb, ne_eqb}
use Rattle.rules.specs.declared.Absence.TheVariants.{NoFrame, Missing}
use Rattle.rules.specs.declared.First.{First}
use Rattle.rules.specs.declared.First.TheVariants.{Number, Nothing}
use Rattle.rules.specs.declared.TimeBytes.{TimeBytes}
use Rattle.rules.specs.FirstRecord.{frames, packets, time_at, first_record, record_number}
use Rattle.rules.specs.FirstStatements.{number_told, FirstNumbers, Placed, FirstPlaced, FirstNone}

-- the answer by its three tests: empty, f = 0, too short
abbrev told : Bool → Bool → Bool → TimeBytes → First
told a b c t = cond a (Nothing Missing) (cond b (Nothing NoFrame) (cond c (Nothing Missing) (Number t)))

number_told_lemma : (a b c : Bool) (t : TimeBytes) → number_told (told a b c t) ≡ cond (a || b || c) None (Some t.number)
unfolding number_told
number_told_lemma true b c t = refl
number_told_lemma false true c t = refl
number_told_lemma false false true t = refl
number_told_lemma false false false t = refl

pub first_numbers : FirstNumbers
unfolding first_record record_number
first_numbers s =
    number_told_lemma (eqb (length s) 0) (eqb (frames (get_or s 0 0)) 0) (ltb (length s) (1 + 2 * packets (get_or s 0 0) + 3))
    (record { number = time_at s (1 + 2 * packets (get_or s 0 0)); offset = 1 + 2 * packets (get_or s 0 0) })

is_number : (a b c : Bool) (t u : TimeBytes) → told a b c t ≡ Number u → (c ≡ false) × (t ≡ u)
is_number true b c t u e = let z : ◌≡◌ {A = ℕ} 0 1 = cc in let f : ⊥ = omega arith in absurd f
is_number false true c t u e = let z : ◌≡◌ {A = ℕ} 0 1 = cc in let f : ⊥ = omega arith in absurd f
is_number false false true t u e = let z : ◌≡◌ {A = ℕ} 0 1 = cc in let f : ⊥ = omega arith in absurd f
is_number false false false t u e = (refl, cc)

pub first_placed : FirstPlaced
unfolding first_record
first_placed s t b e =
    let f = is_number (eqb (length s) 0) (eqb (frames (get_or s 0 0)) 0) (ltb (length s) (1 + 2 * packets (get_or s 0 0) + 3)) _ t e in
    let h = b 0 in
    let l = ltb-false (length s) (1 + 2 * packets (get_or s 0 0) + 3) f.0 in
    subst (Placed s) f.1 (record { odd = omega arith; most = omega arith; inside = omega arith; number = refl })

is_frameless : (a b c : Bool) (t : TimeBytes) → told a b c t ≡ Nothing NoFrame → (a ≡ false) × (b ≡ true)
is_frameless true b c t e = let z : ◌≡◌ {A = ℕ} 0 1 = cc in let f : ⊥ = omega arith in absurd f
is_frameless false true c t e = (refl, refl)
is_frameless false false true t e = let z : ◌≡◌ {A = ℕ} 0 1 = cc in let f : ⊥ = omega arith in absurd f
is_frameless false false false t e = let z : ◌≡◌ {A = ℕ} 0 1 = cc in let f : ⊥ = omega arith in absurd f

pub first_none : FirstNone
unfolding first_record
first_none s = (
  λ e.
      let f = is_frameless (eqb (length s) 0) (eqb (frames (get_or s 0 0)) 0) (ltb (length s) (1 + 2 * packets (get_or s 0 0) + 3)) _ e in
      let l = eqb-false (length s) 0 f.0 in (omega arith, eqb-true (frames (get_or s 0 0)) 0 f.1),
  λ h. let l = h.0 in rw (ne_eqb (length s) 0 (λ z. omega arith), eq-eqb (frames (get_or s 0 0)) 0 h.1),
)
