-- The questions in order, and the area's boundaries. Assumes nothing.
use mathlib.Core.Path.{◌≡◌, refl, ◌∙◌}
use mathlib.Core.Bool.{Bool, true, false, ◌&&◌, not, cond, and-eq-true_iff}
use mathlib.Core.List.{List, [], ◌∷◌, ◌++◌}
use Prim.Native.Nat.{ℕ, ◌+◌, ◌-◌, ◌*◌, ◌/◌, ◌^◌, ◌<◌, ◌≤◌}
use native.Mathlib.Nat.{div-lt_iff_lt-mul, mul-le-mul_left, div-zero}
use native.Mathlib.Omega.{arith}
use borrow.Author.Tests.{leb-true, eqb-false, not-true}
use lib.Dec.{eqb, leb}
use Rattle.rules.specs.declared.Area.{Area}
use Rattle.rules.specs.Tests.{Ask, all, first_no}
use Rattle.rules.specs.Questions.{area_ok}
use Rattle.rules.specs.Values.{boundaries}
use Rattle.tables.proofs.Tests.{product_most}
use Rattle.sections.specs.Sections.{asked}

-- an area has no more boundaries than sectors
pub few : (d k : ℕ) → 1 ≤ k → (d + k - 1) / k ≤ d
few d k h =
    let m : d * 1 ≤ d * k = mul-le-mul_left d h in
    let q : (d + k - 1) / k < d + 1 = (div-lt_iff_lt-mul (let z : 0 < k = omega arith in z)).1 (omega arith) in
    omega arith

-- ---- questions, asked one after the other
abbrev pub ask_all : ℕ → List Ask → ℕ
ask_all n [] = n
ask_all n (q ∷ qs) = ask_all (asked n q.ok q.number) qs

-- is no refusal number 0?
abbrev pub numbered : List Ask → Bool
numbered [] = true
numbered (q ∷ qs) = not (eqb q.number 0) && numbered qs

-- after a refusal nothing more is asked
refused : (n : ℕ) (qs : List Ask) → eqb n 0 ≡ false → ask_all n qs ≡ n
unfolding asked
refused n [] e = refl
refused n (q ∷ qs) e = rw e (refused n qs e)

one_more : (b : Bool) (n : ℕ) (qs : List Ask) → eqb n 0 ≡ false → ask_all 0 qs ≡ first_no qs → ask_all (asked 0 b n) qs ≡ cond b (first_no qs) n
unfolding asked
one_more true n qs e h = h
one_more false n qs e h = refused n qs e

in_order : (qs : List Ask) → numbered qs ≡ true → ask_all 0 qs ≡ first_no qs
unfolding first_no
in_order [] h = refl
in_order (q ∷ qs) h =
    let a = (and-eq-true_iff _ _).0 h in one_more q.ok q.number qs (not-true _ a.0) (in_order qs a.1)

-- the refusal number of questions asked one after the other
pub asked_all : {n : ℕ} (qs : List Ask) → numbered qs ≡ true → n ≡ ask_all 0 qs → n ≡ first_no qs
asked_all qs h e = e ∙ in_order qs h

-- questions behind others: where those refuse, and where they do not
pub first_refuses : (qs rs : List Ask) → (first_no qs ≡ 0 → ⊥) → first_no (qs ++ rs) ≡ first_no qs
unfolding first_no
first_refuses [] rs h = absurd (h refl)
first_refuses (q ∷ qs) rs h = first_by q.ok q.number qs rs h (first_refuses qs rs)
  where
    first_by : (b : Bool) (n : ℕ) (qs rs : List Ask) → (cond b (first_no qs) n ≡ 0 → ⊥) → ((first_no qs ≡ 0 → ⊥) → first_no (qs ++ rs) ≡ first_no qs)
        → cond b (first_no (qs ++ rs)) n ≡ cond b (first_no qs) n
    first_by true n qs rs h g = g h
    first_by false n qs rs h g = refl

pub first_passes : (qs rs : List Ask) → numbered qs ≡ true → first_no qs ≡ 0 → first_no (qs ++ rs) ≡ first_no rs
unfolding first_no
first_passes [] rs n h = refl
first_passes (q ∷ qs) rs n h =
    let a = (and-eq-true_iff _ _).0 n in pass_by q.ok q.number qs rs (not-true _ a.0) h (first_passes qs rs a.1)
  where
    pass_by : (b : Bool) (n : ℕ) (qs rs : List Ask) → eqb n 0 ≡ false → cond b (first_no qs) n ≡ 0 → (first_no qs ≡ 0 → first_no (qs ++ rs) ≡ first_no rs)
        → cond b (first_no (qs ++ rs)) n ≡ first_no rs
    pass_by true n qs rs e h g = g h
    pass_by false n qs rs e h g = let z = eqb-false n 0 e in absurd (z h)

-- ---- the area
pub record Ordered (a : Area) : Type 0 where
  pub rises : a.start ≤ a.end
  pub small : a.end ≤ 4294967295

pub ordered : (a : Area) → area_ok a ≡ true → Ordered a
unfolding area_ok all
ordered a h =
    let p = (and-eq-true_iff (leb a.start a.end) _).0 ((and-eq-true_iff (leb a.key.slot 1) _).0 h).1 in
    record { rises = leb-true _ _ p.0; small = leb-true _ _ ((and-eq-true_iff (leb a.end 4294967295) _).0 p.1).0 }

pub none_by_zero : (a : Area) → boundaries a 0 ≡ 0
unfolding boundaries
none_by_zero a = div-zero (a.end - a.start + 0 - 1)

-- ---- numbers that fit
-- the LSN of a checkpoint
pub lsn_fits : (s j k : ℕ) → s ≤ 4294967295 → j < 4294967296 → k < 4294967296 → s + j * k < 2 ^ 64
lsn_fits s j k hs hj hk = omega (arith, product_most j k hj hk)
