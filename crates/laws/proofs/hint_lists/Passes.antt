-- Passes over a table of records: what is read from a place on, and what is written at its start. Assumes nothing.
use mathlib.Core.Path.{◌≡◌, refl, sym, ap, ◌∙◌}
use mathlib.Core.List.{List, [], ◌∷◌, ◌++◌, append_assoc}
use Prim.Native.Nat.{ℕ, suc, ◌+◌, ◌*◌, ◌-◌, ◌<◌, ◌≤◌}
use native.Mathlib.Nat.{zero-mul, suc-mul, add-mul, mul-le-mul_right}
use native.Mathlib.Numerals.{add-one}
use native.Mathlib.Omega.{arith}
use lib.ListN.{length, take, drop, length-append, length-drop}
use lib.Seq.{take_at, drop_at, drop-drop, length-take-le, sets, sets-eq}
use Rattle.field.specs.Records.{records, bytes_of, record_at}
use Rattle.field.proofs.Records.{records_length, records_add, records_more, record_drop, drop_records, records_front, records_take}
use Rattle.field.proofs.Format.{Layout, bytes_of_length, bytes_of_append, bytes_of_one}
use Rattle.laws.specs.Passes.{between, Begins}

-- ---- the records from place p to place n
module _ {A : Type 0} (w : ℕ) (d : List ℕ → A) where
  pub between_length : (p n : ℕ) (t : List ℕ) → length (between w d p n t) ≡ n - p
  between_length p n t = records_length w d (n - p) (drop (p * w) t)

  pub between_none : (p n : ℕ) (t : List ℕ) → n ≤ p → between w d p n t ≡ []
  unfolding records
  between_none p n t h = let z : n - p ≡ 0 = omega arith in rw z

  pub between_next : (p n : ℕ) (t : List ℕ) → p < n → between w d p n t ≡ record_at w d t p ∷ between w d (p + 1) n t
  unfolding records
  between_next p n t h =
      let z : n - p ≡ suc (n - (p + 1)) = omega arith in
      let m : p * w + w ≡ (p + 1) * w = rw (add-one, suc-mul) in
      rw (z, drop-drop w (p * w) t, m)

  pub between_all : (n : ℕ) (t : List ℕ) → between w d 0 n t ≡ records w d n t
  between_all n t = let z : n - 0 ≡ n = omega arith in rw (z, zero-mul)

  pub between_more : (p n : ℕ) (t : List ℕ) → p ≤ n → between w d p (n + 1) t ≡ between w d p n t ++ (record_at w d t n ∷ [])
  between_more p n t h =
      let z : n + 1 - p ≡ n - p + 1 = omega arith in
      let q : p + (n - p) ≡ n = omega arith in
      rw (z, records_more w d (n - p) (drop (p * w) t), record_drop w d p t (n - p), q)

  pub between_join : (p n : ℕ) (t : List ℕ) → p ≤ n → records w d n t ≡ records w d p t ++ between w d p n t
  between_join p n t h =
      let z : n ≡ p + (n - p) = omega arith in
      ap (λ (k : ℕ). records w d k t) z ∙ records_add w d p (n - p) t

  pub between_drop : (p n : ℕ) (t : List ℕ) → p ≤ n → drop p (records w d n t) ≡ between w d p n t
  between_drop p n t h = drop_records w d p n t h

  -- only what lies past place p is read
  pub between_same : (p n k : ℕ) (s t : List ℕ) → k ≤ p → drop (k * w) s ≡ drop (k * w) t → between w d p n s ≡ between w d p n t
  between_same p n k s t h e =
      let z : p ≡ k + (p - k) = omega arith in
      let q : p * w ≡ k * w + (p - k) * w = ap (λ (x : ℕ). x * w) z ∙ add-mul k (p - k) w in
      ap (records w d (n - p)) (ap (λ (x : ℕ). drop x s) q ∙ sym (drop-drop ((p - k) * w) (k * w) s) ∙ ap (drop ((p - k) * w)) e ∙ drop-drop ((p - k) * w) (k * w) t ∙ ap (λ (x : ℕ). drop x t) (sym q))

  -- the records a to e moved up to place b
  module _ (t t1 : List ℕ) (a e b : ℕ) (order : a ≤ e) (up : a ≤ b) (room : (b + (e - a)) * w ≤ length t)
      (moved : t1 ≡ take (b * w) t ++ (take ((e - a) * w) (drop (a * w) t) ++ drop ((b + (e - a)) * w) t)) where
    abbrev low : List ℕ
    low = take (b * w) t

    abbrev stretch : List ℕ
    stretch = take ((e - a) * w) (drop (a * w) t)

    low_length : length low ≡ b * w
    low_length = length-take-le (b * w) t (omega (arith, add-mul b (e - a) w))

    stretch_length : length stretch ≡ (e - a) * w
    stretch_length =
        let f : a * w ≤ b * w = mul-le-mul_right w up in
        length-take-le ((e - a) * w) (drop (a * w) t) (omega (arith, add-mul b (e - a) w, length-drop (a * w) t))

    pub moved_between : between w d b (b + (e - a)) t1 ≡ between w d a e t
    moved_between =
        let z : b + (e - a) - b ≡ e - a = omega arith in
        let r = drop ((b + (e - a)) * w) t in
        let q : drop (b * w) t1 ≡ stretch ++ r = ap (drop (b * w)) moved ∙ drop_at low (stretch ++ r) (b * w) low_length in
        rw (z, q) (records_front w d (e - a) stretch r (omega (arith, stretch_length)) ∙ records_take w d (e - a) ((e - a) * w) (drop (a * w) t) (omega arith))

    pub moved_past : drop ((b + (e - a)) * w) t1 ≡ drop ((b + (e - a)) * w) t
    moved_past =
        let r = drop ((b + (e - a)) * w) t in
        let l : length (low ++ stretch) ≡ (b + (e - a)) * w = length-append low stretch ∙ omega (arith, low_length, stretch_length, add-mul b (e - a) w) in
        ap (drop ((b + (e - a)) * w)) (moved ∙ sym (append_assoc low stretch r)) ∙ drop_at (low ++ stretch) r ((b + (e - a)) * w) l

-- ---- records at the start of a table
module _ {A : Type 0} {w : ℕ} {d : List ℕ → A} {e : A → List ℕ} {Fits : A → Type 0} (l : Layout w d e Fits) where
  pub begins_none : (t : List ℕ) → Begins w e [] 0 t t
  unfolding bytes_of
  begins_none t = record { count = refl; bytes = rw zero-mul }

  module _ {xs : List A} {j : ℕ} {old new : List ℕ} (s : Begins w e xs j old new) where
    front : length (bytes_of e xs) ≡ j * w
    front = bytes_of_length l xs ∙ rw (← s.count)

    pub begins_more : (x : A) → (j + 1) * w ≤ length new → Begins w e (xs ++ (x ∷ [])) (j + 1) old (sets new (j * w) (e x))
    begins_more x room =
        let b = bytes_of e xs in
        let o = drop (j * w) old in
        let k : length (e x) ≡ w = l.size x in
        let z : j * w + w ≡ (j + 1) * w = rw (add-one, suc-mul) in
        let fits : j * w + length (e x) ≤ length new = omega arith in
        let first : take (j * w) new ≡ b = rw s.bytes (take_at b o (j * w) front) in
        let rest : drop (j * w + w) new ≡ drop ((j + 1) * w) old =
        sym (drop-drop w (j * w) new) ∙ rw (s.bytes, drop_at b o (j * w) front, drop-drop, z) in
        record {
          count = rw length-append (omega (arith, s.count));
          bytes = sets-eq (e x) new (j * w) fits ∙ rw (k, first, rest, bytes_of_append, bytes_of_one);
        }

    -- what lies past them is as it was
    pub begins_past : drop (j * w) new ≡ drop (j * w) old
    begins_past = rw s.bytes (drop_at (bytes_of e xs) (drop (j * w) old) (j * w) front)

    pub begins_between : (p n : ℕ) → j ≤ p → between w d p n new ≡ between w d p n old
    begins_between p n h = between_same w d p n j new old h begins_past

    pub begins_at : (i : ℕ) → j ≤ i → record_at w d new i ≡ record_at w d old i
    begins_at i h =
        let z : i ≡ j + (i - j) = omega arith in
        rw (z, ← (record_drop w d j new (i - j)), ← (record_drop w d j old (i - j))) (ap (λ (y : List ℕ). record_at w d y (i - j)) begins_past)
