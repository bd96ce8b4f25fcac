-- A loop that reads things in order from a place of the body on: its start, a turn that reads one, one that refuses, and its end. Assumes nothing.
use mathlib.Core.Path.{◌≡◌, refl, sym, ap, ◌∙◌}
use mathlib.Core.List.{List, ◌∷◌}
use Prim.Native.Nat.{ℕ, suc, ◌+◌, ◌-◌, ◌<◌, ◌≤◌}
use native.Mathlib.Nat.{sub-zero}
use native.Mathlib.Omega.{arith}
use lib.ListN.{length, drop, length-drop}
use Rattle.rules.specs.Tests.{Answer, Refused, Accepted, bind}
use Rattle.rules.specs.Load.{Read, read, read_each}
use Rattle.inspect.specs.Cursors.{to}
use Rattle.inspect.specs.declared.scan.Taken.{Taken}
use Rattle.inspect.specs.declared.scan.Taken.TheVariants as taken
use Rattle.inspect.specs.Steps.{taken_of}

-- the loop has read j of n things, is at the place at of the body b and in state s; the answer is to be x
pub record Reading {S A : Type 0} (r : S → List ℕ → Answer (Read A)) (next : S → A → S) (n : ℕ) (b : List ℕ) (x : Taken) (j at : ℕ) (s : S) : Type 0 where
  pub within : j ≤ n
  pub inside : at ≤ length b
  pub rest : taken_of b (read_each r next (n - j) s (drop at b)) ≡ x

pub reading_start : {S A : Type 0} (r : S → List ℕ → Answer (Read A)) (next : S → A → S) (n : ℕ) (b : List ℕ) (at : ℕ) (s : S) → at ≤ length b
    → Reading r next n b (taken_of b (read_each r next n s (drop at b))) 0 at s
reading_start r next n b at s l = record { within = omega arith; inside = l; rest = rw sub-zero }

-- one more in front moves the cursor no further
taken_more : {A : Type 0} (b : List ℕ) (v : A) (e : Answer (Read (List A))) → taken_of b (bind e (λ u. read (v ∷ u.value) u.rest)) ≡ taken_of b e
unfolding bind taken_of
taken_more b v (Refused k) = refl
taken_more b v (Accepted t) = refl

module _ {S A : Type 0} {r : S → List ℕ → Answer (Read A)} {next : S → A → S} {n : ℕ} {b : List ℕ} {x : Taken} {j at : ℕ} {s : S}
    (k : Reading r next n b x j at s) where
  left : j < n → n - j ≡ suc (n - (j + 1))
  left h = omega arith

  pub reading_on : {v : A} {at' : ℕ} {s' : S} → j < n → r s (drop at b) ≡ read v (drop at' b) → at' ≤ length b → s' ≡ next s v → Reading r next n b x (j + 1) at' s'
  unfolding read_each bind
  reading_on {v} {at'} h e l g = record {
    within = omega arith;
    inside = l;
    rest = rw g (sym (taken_more b v (read_each r next (n - (j + 1)) (next s v) (drop at' b))) ∙ rw (left h, e) at k.rest);
  }

  pub reading_stop : {m : ℕ} → j < n → r s (drop at b) ≡ Refused m → taken.Refused m ≡ x
  unfolding read_each bind taken_of
  reading_stop h e = rw (left h, e) at k.rest

  pub reading_end : n ≤ j → taken.Behind (to at) ≡ x
  unfolding read_each taken_of
  reading_end h =
      let z : n - j ≡ 0 = omega arith in
      let l : at ≤ length b = k.inside in
      let q : length b - length (drop at b) ≡ at = simp length-drop (omega arith) in
      ap (λ (i : ℕ). taken.Behind (to i)) (sym q) ∙ (rw z at k.rest)
