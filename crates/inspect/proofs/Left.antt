-- What is left of bytes behind what was read, and the cursor there. Assumes nothing.
use mathlib.Core.Path.{◌≡◌, refl, ap, ◌∙◌}
use mathlib.Core.List.{List}
use Prim.Native.Nat.{ℕ, zero, suc, ◌+◌, ◌*◌, ◌-◌, ◌≤◌}
use native.Mathlib.Nat.{zero-mul, suc-mul}
use native.Mathlib.Omega.{arith}
use lib.ListN.{length, take, drop, length-drop}
use lib.Seq.{drop-drop, take_all}
use Rattle.rules.specs.Tests.{Answer, Accepted}
use Rattle.rules.specs.Load.{Read, read_each}
use Rattle.rules.proofs.Tests.{accepted_eq, bind→}
use Rattle.inspect.specs.declared.cursor.Cursor.{Cursor}
use Rattle.inspect.specs.Cursors.{to}
use Rattle.inspect.specs.Behind.{behind}

pub read_eq : {A : Type 0} {t : Read A} {v : A} {r : List ℕ} → t.value ≡ v → t.rest ≡ r → t ≡ record { value = v; rest = r }
read_eq p q = rw (← p, ← q)

-- the body from a place on
pub tail_is : (s : List ℕ) (at : ℕ) → take (length s - at) (drop at s) ≡ drop at s
tail_is s at = take_all (length s - at) (drop at s) (simp length-drop (omega arith))

-- ---- what is left of b
pub record Left (b rest : List ℕ) : Type 0 where
  pub at : ℕ
  pub inside : at ≤ length b
  pub is : rest ≡ drop at b

pub left_all : (b : List ℕ) → Left b b
left_all b = record { at = 0; inside = omega arith; is = refl }

pub left_drop : (n : ℕ) (b : List ℕ) → n ≤ length b → Left b (drop n b)
left_drop n b h = record { at = n; inside = h; is = refl }

pub left_more : {b c d : List ℕ} → Left b c → Left c d → Left b d
left_more {b} {c} {d} p q =
    let l : q.at ≤ length b - p.at = (rw (p.is, length-drop) at q.inside) in
    record { at = p.at + q.at; inside = omega (arith, p.inside); is = q.is ∙ ap (drop q.at) p.is ∙ drop-drop q.at p.at b }

-- ---- the cursor behind what was read of the body s
-- it is where the rest begins
pub left_at : {s rest : List ℕ} → Left s rest → {d : Cursor} → d ≡ behind s rest → (rest ≡ drop d.at s) × (d.at ≤ length s)
left_at {s} {rest} l {d} e =
    let i : l.at ≤ length s = l.inside in
    let m : length rest ≡ length s - l.at = ap length l.is ∙ length-drop l.at s in
    let q : d.at ≡ l.at = ap (λ (z : Cursor). z.at) e ∙ omega arith in
    (rw q l.is, rw q i)

-- n bytes from at on
pub behind_is : (s : List ℕ) (at n : ℕ) → at + n ≤ length s → to (at + n) ≡ behind s (drop n (drop at s))
behind_is s at n h =
    let q : length s - length (drop n (drop at s)) ≡ at + n = simp (drop-drop, length-drop) (omega arith) in
    rw q

-- ---- readers
-- a reader leaves the end of its bytes
pub record Leaves {S A : Type 0} (r : S → List ℕ → Answer (Read A)) : Type 0 where
  pub leaves : (s : S) (b : List ℕ) (t : Read A) → r s b ≡ Accepted t → Left b t.rest

pub each_left : {S A : Type 0} {r : S → List ℕ → Answer (Read A)} → Leaves r → (next : S → A → S) (n : ℕ) (s : S) (b : List ℕ) (t : Read (List A))
    → read_each r next n s b ≡ Accepted t → Left b t.rest
unfolding read_each
each_left q next zero s b t e = rw (← accepted_eq _ _ e) (left_all b)
each_left {r = r} q next (suc n) s b t e =
    let u = bind→ (r s b) _ _ e in
    let v = bind→ (read_each r next n (next s u.value.value) u.value.rest) _ _ u.second in
    rw (← accepted_eq _ _ v.second) (left_more (q.leaves s b u.value u.first) (each_left q next n _ _ v.value v.first))

-- r needs w bytes for what it reads
pub record Wide {S A : Type 0} (r : S → List ℕ → Answer (Read A)) (w : ℕ) : Type 0 where
  pub wide : (s : S) (b : List ℕ) (t : Read A) → r s b ≡ Accepted t → (w ≤ length b) × (t.rest ≡ drop w b)

module _ {S A : Type 0} {r : S → List ℕ → Answer (Read A)} {w : ℕ} (q : Wide r w) where
  pub wide_leaves : Leaves r
  wide_leaves = record { leaves = λ s b t e. let g = q.wide s b t e in rw g.1 (left_drop w b g.0) }

  pub read_room : (next : S → A → S) (n : ℕ) (s : S) (b : List ℕ) (t : Read (List A)) → read_each r next n s b ≡ Accepted t → n * w ≤ length b
  unfolding read_each
  read_room next zero s b t e = rw zero-mul (omega arith)
  read_room next (suc n) s b t e =
      let u = bind→ (r s b) _ _ e in
      let v = bind→ (read_each r next n (next s u.value.value) u.value.rest) _ _ u.second in
      let g = q.wide s b u.value u.first in
      let i : n * w ≤ length b - w = rw (g.1, length-drop) at (read_room next n (next s u.value.value) u.value.rest v.value v.first) in
      let j : w ≤ length b = g.0 in
      rw suc-mul (omega arith)
