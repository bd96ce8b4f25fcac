-- Laws of `records`, over any width and reader. Assumes nothing.
use mathlib.Core.Path.{◌≡◌, refl, sym, ap, ◌∙◌}
use mathlib.Core.List.{List, [], ◌∷◌, ◌++◌}
use Prim.Native.Nat.{ℕ, zero, suc, ◌+◌, ◌*◌, ◌-◌, ◌<◌, ◌≤◌}
use native.Mathlib.Nat.{zero-mul, suc-mul, zero-add, suc-add, add_comm, add-mul, mul-le-mul_right}
use native.Mathlib.Omega.{arith}
use lib.ListN.{length, take, drop, get_or, get_or-eq_default}
use lib.Seq.{drop-drop, take_at, drop_at, take-take, take-append-le}
use Rattle.field.specs.Records.{records, record_at}
use Rattle.field.proofs.Bytes.{drop_take}

module _ {A : Type 0} (w : ℕ) (d : List ℕ → A) where
  pub records_length : (n : ℕ) (t : List ℕ) → length (records w d n t) ≡ n
  unfolding records
  records_length zero t = refl
  records_length (suc n) t = ap suc (records_length n (drop w t))

  -- record j is what d reads in the j-th stretch
  pub records_at : (n : ℕ) (t : List ℕ) (j : ℕ) (z : A) → j < n → get_or (records w d n t) j z ≡ record_at w d t j
  unfolding records
  records_at zero t j z h = let f : ⊥ = omega arith in absurd f
  records_at (suc n) t zero z h = rw zero-mul
  records_at (suc n) t (suc j) z h =
      let h' : j < n = omega arith in records_at n (drop w t) j z h' ∙ rw (drop-drop, suc-mul, add_comm (j * w) w)

  pub records_past : (n : ℕ) (t : List ℕ) (j : ℕ) (z : A) → n ≤ j → get_or (records w d n t) j z ≡ z
  records_past n t j z h =
      let l : length (records w d n t) ≤ j = rw records_length h in get_or-eq_default (records w d n t) z l

  -- record j of what follows the first k
  pub record_drop : (k : ℕ) (t : List ℕ) (j : ℕ) → record_at w d (drop (k * w) t) j ≡ record_at w d t (k + j)
  record_drop k t j = rw (drop-drop, add-mul)

  -- the first n, and then m more
  pub records_add : (n m : ℕ) (t : List ℕ) → records w d (n + m) t ≡ records w d n t ++ records w d m (drop (n * w) t)
  unfolding records
  records_add zero m t = rw (zero-add, zero-mul)
  records_add (suc n) m t = rw (suc-add, records_add n m (drop w t), drop-drop, suc-mul, add_comm (n * w) w)

  pub records_more : (n : ℕ) (t : List ℕ) → records w d (n + 1) t ≡ records w d n t ++ (record_at w d t n ∷ [])
  unfolding records
  records_more n t = records_add n 1 t

  -- fewer records
  pub take_records : (k n : ℕ) (t : List ℕ) → k ≤ n → take k (records w d n t) ≡ records w d k t
  take_records k n t h =
      let q : n ≡ k + (n - k) = omega arith in
      rw (q, records_add k (n - k) t) (take_at (records w d k t) (records w d (n - k) (drop (k * w) t)) k (records_length k t))

  pub drop_records : (k n : ℕ) (t : List ℕ) → k ≤ n → drop k (records w d n t) ≡ records w d (n - k) (drop (k * w) t)
  drop_records k n t h =
      let q : n ≡ k + (n - k) = omega arith in
      ap (λ (m : ℕ). drop k (records w d m t)) q ∙ ap (drop k) (records_add k (n - k) t)
      ∙ drop_at (records w d k t) (records w d (n - k) (drop (k * w) t)) k (records_length k t)

  -- a stretch of records is a stretch of the list
  pub records_part : (n a m : ℕ) (t : List ℕ) → a + m ≤ n → records w d m (drop (a * w) t) ≡ take m (drop a (records w d n t))
  records_part n a m t h =
      let l : a ≤ n = omega arith in
      let g : m ≤ n - a = omega arith in
      sym (rw (drop_records a n t l) (take_records m (n - a) (drop (a * w) t) g))

  -- only the first n * w bytes are read
  pub records_take : (n k : ℕ) (t : List ℕ) → n * w ≤ k → records w d n (take k t) ≡ records w d n t
  unfolding records
  records_take zero k t h = refl
  records_take (suc n) k t h =
      let h' : n * w + w ≤ k = rw suc-mul at h in
      let q : k ≡ w + (k - w) = omega arith in
      let f : w ≤ k = omega arith in
      let g : n * w ≤ k - w = omega arith in
      rw (take-take w k t f) (rw (q, drop_take w (k - w) t, records_take n (k - w) (drop w t) g))

  pub records_same : (n : ℕ) (s t : List ℕ) → take (n * w) s ≡ take (n * w) t → records w d n s ≡ records w d n t
  records_same n s t e =
      sym (records_take n (n * w) s (omega arith)) ∙ ap (records w d n) e ∙ records_take n (n * w) t (omega arith)

  pub records_front : (n : ℕ) (a b : List ℕ) → n * w ≤ length a → records w d n (a ++ b) ≡ records w d n a
  records_front n a b h = records_same n (a ++ b) a (take-append-le (n * w) a b h)

  -- two tables end to end
  pub records_join : (n m : ℕ) (a b : List ℕ) → length a ≡ n * w → records w d (n + m) (a ++ b) ≡ records w d n a ++ records w d m b
  records_join n m a b h =
      let h' : n * w ≤ length a = omega arith in
      records_add n m (a ++ b) ∙ rw (records_front n a b h', drop_at a b (n * w) h)

  -- a stretch of records lies in the table
  pub stretch_fits : (a m n : ℕ) (t : List ℕ) → a + m ≤ n → n * w ≤ length t → a * w + m * w ≤ length t
  stretch_fits a m n t l h =
      let f : (a + m) * w ≤ n * w = mul-le-mul_right w l in
      let f' : a * w + m * w ≤ n * w = rw add-mul at f in
      omega arith
