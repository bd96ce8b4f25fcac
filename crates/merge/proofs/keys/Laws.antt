-- A table read record by record, and one pass over its keys. Assumes nothing.
use mathlib.Core.Path.{◌≡◌, refl, sym, ap, ◌∙◌}
use mathlib.Core.List.{List, [], ◌∷◌}
use Prim.Native.Nat.{ℕ, zero, suc, ◌+◌, ◌-◌, ◌*◌, ◌<◌, ◌≤◌}
use native.Mathlib.Nat.{add-zero}
use native.Mathlib.Omega.{arith}
use lib.Dec.{ltb}
use lib.ListN.{length, take, drop, drop_of_length-le, length-drop}
use lib.Seq.{drop-drop}
use borrow.Author.Tests.{lt-ltb, le-ltb, le-leb, ltb-false}
use Rattle.field.specs.Number.{number_at}
use Rattle.field.specs.Records.{records, record_at}
use Rattle.field.proofs.Number.{number_part}
use Rattle.field.proofs.Records.{records_length, drop_records, stretch_fits}
use Rattle.rules.proofs.Tests.{test}
use Rattle.laws.specs.Order.{Rises}
use Rattle.tables.proofs.Walk.{records_turn}
use Rattle.merge.specs.Keys.{key_of, keys_in, below, from_key}

-- a record that was read is the next of its list
pub read_turn : {A : Type 0} {x : A} (w : ℕ) (d : List ℕ → A) (n : ℕ) (t : List ℕ) (i : ℕ) → i < n
    → x ≡ record_at w d t i
    → drop i (records w d n t) ≡ x ∷ drop (i + 1) (records w d n t)
read_turn w d n t i l e = records_turn w d n t i l ∙ rw (← e)

-- record k of n lies in the table
pub row_fits : (w k n : ℕ) (t : List ℕ) → k < n → n * w ≤ length t → k * w + w ≤ length t
row_fits w k n t l h = let f = stretch_fits w key_of k 1 n t (omega arith) h in omega arith

pub key_at : {x : ℕ} (w k : ℕ) (t : List ℕ) → 4 ≤ w → x ≡ number_at 4 t (k * w) → x ≡ record_at w key_of t k
unfolding key_of
key_at w k t l e = e ∙ sym (number_part 4 w (k * w) 0 t (le-leb 4 w l) ∙ rw add-zero)

-- ---- the loop is at number k of n, and began at number i
pub record Skipping (low : ℕ) (ks : List ℕ) (n i k : ℕ) : Type 0 where
  pub within : k ≤ n
  pub is : k + below low (drop k ks) ≡ i + below low (drop i ks)

module _ {low : ℕ} {ks : List ℕ} {n i k : ℕ} (s : Skipping low ks n i k) where
  pub skip_end : length ks ≡ n → n ≤ k → n ≡ i + below low (drop i ks)
  unfolding below
  skip_end g l =
      let y : drop k ks ≡ [] = drop_of_length-le ks (let j : length ks ≤ k = omega arith in j) in
      let e = rw y at s.is in omega arith

  module _ {x : ℕ} (q : drop k ks ≡ x ∷ drop (k + 1) ks) where
    pub skip_stop : low ≤ x → k ≡ i + below low (drop i ks)
    unfolding below
    skip_stop l = let e = rw (q, le-ltb x low l) at s.is in omega arith

    pub skip_on : k < n → x < low → Skipping low ks n i (k + 1)
    unfolding below
    skip_on h l = let e = rw (q, lt-ltb x low l) at s.is in record { within = omega arith; is = omega arith }

-- ---- where it stops, of records whose first four bytes are their key
below_length : (low : ℕ) (ks : List ℕ) → below low ks ≤ length ks
unfolding below
below_length low [] = omega arith
below_length low (k ∷ ks) =
    let h = below_length low ks in test (ltb k low) (λ e. rw e (omega arith)) (λ e. rw e (omega arith))

module _ {A : Type 0} (key : A → ℕ) (w : ℕ) (d : List ℕ → A) (first : (b : List ℕ) → key (d b) ≡ key_of b) where
  from_below : (low n : ℕ) (t : List ℕ)
      → drop (below low (keys_in w n t)) (records w d n t) ≡ from_key key low (records w d n t)
  unfolding below from_key records
  from_below low zero t = refl
  from_below low (suc n) t =
      rw (first (take w t)) (test (ltb (key_of (take w t)) low) (λ e. rw e (from_below low n (drop w t))) (λ e. rw e))

  pub skipped : {r : ℕ} (low n i : ℕ) (t : List ℕ) → i ≤ n → r ≡ i + below low (drop i (keys_in w n t))
      → (r ≤ n) × (drop r (records w d n t) ≡ from_key key low (drop i (records w d n t)))
  skipped low n i t l e =
      let b = below_length low (drop i (keys_in w n t)) in
      let m = length-drop i (keys_in w n t) in
      let k = records_length w key_of n t in (
        omega arith,
        ap (λ (j : ℕ). drop j (records w d n t)) e
            ∙ sym (drop-drop (below low (drop i (keys_in w n t))) i (records w d n t))
            ∙ rw (drop_records w d i n t l, drop_records w key_of i n t l) (from_below low (n - i) (drop (i * w) t)),
      )

-- what is left of a rising list begins at low or later
pub from_rises : {A : Type 0} (key : A → ℕ) (b low : ℕ) (xs : List A) → Rises key b xs
    → Rises key low (from_key key low xs)
unfolding from_key
from_rises key b low [] r = tt
from_rises key b low (x ∷ xs) r =
    test (ltb (key x) low) (λ e. rw e (from_rises key (suc (key x)) low xs r.1))
    (λ e. rw e (ltb-false (key x) low e, r.1))
