-- A loop over the records of a table that asks a `walk`: its start, a turn that passes, one that stops, and its end. Assumes nothing.
use mathlib.Core.Path.{◌≡◌, refl, sym, ap, ◌∙◌}
use mathlib.Core.Bool.{Bool, true, false, ◌&&◌}
use mathlib.Core.List.{List, [], ◌∷◌}
use Prim.Native.Nat.{ℕ, ◌+◌, ◌<◌, ◌≤◌}
use native.Mathlib.Numerals.{add-one}
use native.Mathlib.Omega.{arith}
use lib.ListN.{length, drop, drop_of_length-le}
use lib.Seq.{drop-cons}
use Rattle.field.specs.Records.{records, record_at}
use Rattle.field.proofs.Records.{records_length, records_at}
use Rattle.rules.specs.Tests.{walk}

-- what follows record j
pub records_turn : {A : Type 0} (w : ℕ) (d : List ℕ → A) (n : ℕ) (t : List ℕ) (j : ℕ) → j < n
    → drop j (records w d n t) ≡ record_at w d t j ∷ drop (j + 1) (records w d n t)
records_turn w d n t j h =
    let l : j < length (records w d n t) = rw records_length h in
    drop-cons (records w d n t) j (record_at w d t j) l ∙ rw (records_at w d n t j (record_at w d t j) h, add-one)

-- the loop has passed j records and is in state s, and the answer is to be x
pub record Walk {S A : Type 0} (w : ℕ) (d : List ℕ → A) (ok : S → A → Bool) (next : S → A → S) (n : ℕ) (t : List ℕ) (x : Bool) (j : ℕ) (s : S) : Type 0 where
  pub within : j ≤ n
  pub rest : walk ok next s (drop j (records w d n t)) ≡ x

pub walk_start : {S A : Type 0} (w : ℕ) (d : List ℕ → A) (ok : S → A → Bool) (next : S → A → S) (n : ℕ) (t : List ℕ) (s : S)
    → Walk w d ok next n t (walk ok next s (records w d n t)) 0 s
walk_start w d ok next n t s = record { within = omega arith; rest = refl }

module _ {S A : Type 0} {w : ℕ} {d : List ℕ → A} {ok : S → A → Bool} {next : S → A → S} {n : ℕ} {t : List ℕ} {x : Bool} {j : ℕ} {s : S}
    (k : Walk w d ok next n t x j s) where
  -- at record j
  at : {c : A} → j < n → c ≡ record_at w d t j → (ok s c && walk ok next (next s c) (drop (j + 1) (records w d n t))) ≡ x
  unfolding walk
  at {c} h e = rw e (sym (ap (walk ok next s) (records_turn w d n t j h)) ∙ k.rest)

  pub walk_on : {c : A} {s' : S} → j < n → c ≡ record_at w d t j → ok s c ≡ true → s' ≡ next s c → Walk w d ok next n t x (j + 1) s'
  walk_on h e o g = record { within = omega arith; rest = rw g (rw o at (at h e)) }

  pub walk_stop : {c : A} → j < n → c ≡ record_at w d t j → ok s c ≡ false → false ≡ x
  walk_stop h e o = rw o at (at h e)

  pub walk_end : n ≤ j → true ≡ x
  unfolding walk
  walk_end h =
      let l : length (records w d n t) ≤ j = rw records_length h in
      let q : drop j (records w d n t) ≡ [] = drop_of_length-le (records w d n t) l in
      sym (ap (walk ok next s) q) ∙ k.rest
