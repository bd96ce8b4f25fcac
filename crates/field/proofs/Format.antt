-- A reader and a writer of one layout: what their records say of the bytes. Assumes nothing.
use mathlib.Core.Path.{◌≡◌, refl, sym, ap, ◌∙◌}
use mathlib.Core.Bool.{true}
use mathlib.Core.List.{List, [], ◌∷◌, ◌++◌, append_assoc, append-nil}
use Prim.Native.Nat.{ℕ, zero, suc, ◌+◌, ◌*◌, ◌-◌, ◌^◌, ◌<◌, ◌≤◌}
use native.Mathlib.Nat.{zero-mul, suc-mul, add_comm, mul-le-mul_right, pow-le-pow_right}
use native.Mathlib.Numerals.{add-one}
use native.Mathlib.Omega.{arith}
use lib.ListN.{length, take, drop, get_or, set, length-drop, length-take, length-append}
use lib.Seq.{take-add, take_at, drop_at, length-take-le, sets, sets-eq, set_at, append_snoc}
use Rattle.field.specs.Number.{encode, decode, same_bytes}
use Rattle.field.specs.Records.{records, bytes_of, Bytes, record_at}
use Rattle.field.proofs.Bytes.{bytes_take, bytes_drop, bytes_part, bytes_append, same_true, same_refl}
use Rattle.field.proofs.Number.{encode_length, encode_bytes, decode_encode, encode_decode, decode_below}
use Rattle.field.proofs.Records.{records_length, records_add, records_more, records_take, records_same, records_join}

pub record Layout {A : Type 0} (w : ℕ) (d : List ℕ → A) (e : A → List ℕ) (Fits : A → Type 0) : Type 0 where
  pub size : (x : A) → length (e x) ≡ w
  pub byte : (x : A) → Bytes (e x)
  pub back : (x : A) → Fits x → d (e x) ≡ x
  pub forth : (b : List ℕ) → length b ≡ w → Bytes b → e (d b) ≡ b
  pub fit : (b : List ℕ) → length b ≤ w → Bytes b → Fits (d b)

-- a number in w bytes is a record
pub numbers : (w : ℕ) → Layout w decode (encode w) (λ v. v < 256 ^ w)
numbers w = record {
  size = encode_length w;
  byte = encode_bytes w;
  back = decode_encode w;
  forth = λ b l h. rw l at (encode_decode b h);
  fit = λ b l h. let p : 256 ^ length b ≤ 256 ^ w = pow-le-pow_right (let z : 0 < 256 = omega arith in z) l in omega (arith, decode_below b h);
}

-- ---- each of a list
pub data Each {A : Type 0} (P : A → Type 0) : List A → Type 0 where
  none : Each P []
  one : {x : A} {xs : List A} → P x → Each P xs → Each P (x ∷ xs)

pub each_append : {A : Type 0} {P : A → Type 0} {xs ys : List A} → Each P xs → Each P ys → Each P (xs ++ ys)
each_append none q = q
each_append (one p ps) q = one p (each_append ps q)

pub each_at : {A : Type 0} {P : A → Type 0} {xs : List A} (k : ℕ) (z : A) → Each P xs → P z → P (get_or xs k z)
each_at k z none q = q
each_at zero z (one p ps) q = p
each_at (suc k) z (one p ps) q = each_at k z ps q

-- ---- the bytes of records
module _ {A : Type 0} (e : A → List ℕ) where
  pub bytes_of_append : (xs ys : List A) → bytes_of e (xs ++ ys) ≡ bytes_of e xs ++ bytes_of e ys
  unfolding bytes_of
  bytes_of_append [] ys = refl
  bytes_of_append (x ∷ xs) ys = rw (bytes_of_append xs ys, append_assoc)

  pub bytes_of_one : (x : A) → bytes_of e (x ∷ []) ≡ e x
  unfolding bytes_of
  bytes_of_one x = append-nil (e x)

module _ {A : Type 0} {w : ℕ} {d : List ℕ → A} {e : A → List ℕ} {Fits : A → Type 0} (l : Layout w d e Fits) where
  pub bytes_of_length : (xs : List A) → length (bytes_of e xs) ≡ length xs * w
  unfolding bytes_of
  bytes_of_length [] = rw zero-mul
  bytes_of_length (x ∷ xs) = rw (length-append, l.size x, bytes_of_length xs, suc-mul, add_comm w (length xs * w))

  pub bytes_of_bytes : (xs : List A) → Bytes (bytes_of e xs)
  unfolding bytes_of
  bytes_of_bytes [] = λ i. omega arith
  bytes_of_bytes (x ∷ xs) = bytes_append (e x) (bytes_of e xs) (l.byte x) (bytes_of_bytes xs)

  -- ---- read, and written again
  pub bytes_records : (n : ℕ) (t : List ℕ) → Bytes t → n * w ≤ length t → bytes_of e (records w d n t) ≡ take (n * w) t
  unfolding records bytes_of
  bytes_records zero t b h = rw zero-mul
  bytes_records (suc n) t b h =
      let h' : n * w + w ≤ length t = rw suc-mul at h in
      let h1 : w ≤ length t = omega arith in
      let h2 : n * w ≤ length (drop w t) = simp length-drop (omega arith) in
      rw (l.forth (take w t) (length-take-le w t h1) (bytes_take t w b), bytes_records n (drop w t) (bytes_drop t w b) h2, suc-mul, add_comm (n * w) w, take-add)

  -- what is read fits
  pub records_fit : (n : ℕ) (t : List ℕ) → Bytes t → Each Fits (records w d n t)
  unfolding records
  records_fit zero t b = none
  records_fit (suc n) t b =
      one (l.fit (take w t) (simp length-take (omega arith)) (bytes_take t w b)) (records_fit n (drop w t) (bytes_drop t w b))

  pub record_fits : (t : List ℕ) (j : ℕ) → Bytes t → Fits (record_at w d t j)
  record_fits t j b = l.fit (take w (drop (j * w) t)) (simp length-take (omega arith)) (bytes_part t (j * w) w b)

  -- ---- written, and read again
  pub records_bytes : {xs : List A} (r : List ℕ) → Each Fits xs → records w d (length xs) (bytes_of e xs ++ r) ≡ xs
  unfolding records bytes_of
  records_bytes r none = refl
  records_bytes r (one {x = x} {xs = xs} f g) =
      rw (append_assoc, take_at (e x) (bytes_of e xs ++ r) w (l.size x), drop_at (e x) (bytes_of e xs ++ r) w (l.size x), l.back x f, records_bytes r g)

  -- the first n stretches of t, copied over the start of o, are the first n records
  pub written : {o' : List ℕ} (n : ℕ) (t o : List ℕ) → Bytes t → n * w ≤ length t
      → o' ≡ take (n * w) t ++ drop (n * w) o → o' ≡ bytes_of e (records w d n t) ++ drop (n * w) o
  written n t o b h c = c ∙ rw (bytes_records n t b h)

  -- ---- the same records are the same bytes. The other way round: `records_same`
  pub same_stretch : (n : ℕ) (s t : List ℕ) → Bytes s → Bytes t → n * w ≤ length s → n * w ≤ length t
      → records w d n s ≡ records w d n t → take (n * w) s ≡ take (n * w) t
  same_stretch n s t a b h k q = sym (bytes_records n s a h) ∙ ap (bytes_of e) q ∙ bytes_records n t b k

  pub same_records : (n : ℕ) (s t : List ℕ) → same_bytes (take (n * w) s) (take (n * w) t) ≡ true → records w d n s ≡ records w d n t
  same_records n s t q = records_same w d n s t (same_true (take (n * w) s) (take (n * w) t) q)

  pub records_same_bytes : (n : ℕ) (s t : List ℕ) → Bytes s → Bytes t → n * w ≤ length s → n * w ≤ length t
      → records w d n s ≡ records w d n t → same_bytes (take (n * w) s) (take (n * w) t) ≡ true
  records_same_bytes n s t a b h k q = rw (same_stretch n s t a b h k q) (same_refl (take (n * w) t))

  -- ---- stores
  -- record n stored
  pub records_pushed : (n : ℕ) (t : List ℕ) (x : A) → Fits x → n * w + w ≤ length t
      → records w d (n + 1) (sets t (n * w) (e x)) ≡ records w d n t ++ (x ∷ [])
  unfolding records
  records_pushed n t x f h =
      let h1 : n * w ≤ length t = omega arith in
      let h2 : n * w + length (e x) ≤ length t = rw (l.size x) h in
      let r = drop (n * w + length (e x)) t in
      rw (sets-eq (e x) t (n * w) h2, append_assoc) (records_join w d n 1 (take (n * w) t) (e x ++ r) (length-take-le (n * w) t h1)
      ∙ rw (records_take w d n (n * w) t (omega arith), take_at (e x) r w (l.size x), l.back x f))

  -- and the rest is as it was
  pub rest_pushed : (n : ℕ) (t : List ℕ) (x : A) → n * w + w ≤ length t → drop (n * w + w) (sets t (n * w) (e x)) ≡ drop (n * w + w) t
  rest_pushed n t x h =
      let h1 : n * w ≤ length t = omega arith in
      let h2 : n * w + length (e x) ≤ length t = rw (l.size x) h in
      let g : length (take (n * w) t ++ e x) ≡ n * w + w = length-append (take (n * w) t) (e x) ∙ rw (length-take-le (n * w) t h1, l.size x) in
      rw (sets-eq (e x) t (n * w) h2, l.size x) (drop_at (take (n * w) t ++ e x) (drop (n * w + w) t) (n * w + w) g)

  -- record j stored
  pub records_put : (n j : ℕ) (t : List ℕ) (x : A) → Fits x → j < n → n * w ≤ length t
      → records w d n (sets t (j * w) (e x)) ≡ set (records w d n t) j x
  records_put n j t x f h g =
      let q : n ≡ j + 1 + (n - (j + 1)) = omega arith in
      let m : (j + 1) * w ≡ j * w + w = rw (add-one, suc-mul) in
      let u : (j + 1) * w ≤ n * w = mul-le-mul_right w (let v : j + 1 ≤ n = omega arith in v) in
      let l' : j * w + w ≤ length t = omega arith in
      let rs = records w d (n - (j + 1)) (drop (j * w + w) t) in
      let a : records w d n (sets t (j * w) (e x)) ≡ records w d j t ++ (x ∷ []) ++ rs =
      ap (λ (k : ℕ). records w d k (sets t (j * w) (e x))) q ∙ records_add w d (j + 1) (n - (j + 1)) (sets t (j * w) (e x))
      ∙ rw (m, records_pushed j t x f l', rest_pushed j t x l') in
      let b : records w d n t ≡ records w d j t ++ (record_at w d t j ∷ []) ++ rs =
      ap (λ (k : ℕ). records w d k t) q ∙ records_add w d (j + 1) (n - (j + 1)) t ∙ rw (m, records_more w d j t) in
      a ∙ rw (b, append_snoc (records w d j t) x rs, append_snoc) (sym (set_at (records w d j t) (record_at w d t j) rs x j (records_length w d j t)))
