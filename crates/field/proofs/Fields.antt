-- The layout of a record made of numbers, one after another. Assumes nothing.
use mathlib.Core.Path.{◌≡◌, refl, sym, ap, ◌∙◌}
use mathlib.Core.List.{List, [], ◌∷◌, ◌++◌}
use Prim.Native.Nat.{ℕ, ◌+◌, ◌≤◌}
use native.Mathlib.Nat.{add_assoc}
use native.Mathlib.Omega.{arith}
use lib.ListN.{length, take, drop, get_or, length-append}
use lib.Seq.{drop_at, take_at, take_all, sets}
use Rattle.field.specs.Number.{encode, decode, number_at, put}
use Rattle.field.specs.Records.{Bytes}
use Rattle.field.specs.Fields.{widths, fields_at, field_bytes, FieldsFit, put_fields}
use Rattle.field.proofs.Bytes.{bytes_append, sets_more, stretch_join}
use Rattle.field.proofs.Number.{encode_length, encode_bytes, decode_encode, encode_number, number_below, number_drop}
use Rattle.field.proofs.Format.{Layout}

pub field_bytes_length : (ws vs : List ℕ) → length (field_bytes ws vs) ≡ widths ws
field_bytes_length [] vs = refl
field_bytes_length (w ∷ ws) vs = rw (length-append, encode_length, field_bytes_length ws (drop 1 vs))

pub field_bytes_bytes : (ws vs : List ℕ) → Bytes (field_bytes ws vs)
field_bytes_bytes [] vs = λ i. omega arith
field_bytes_bytes (w ∷ ws) vs =
    bytes_append (encode w (get_or vs 0 0)) (field_bytes ws (drop 1 vs)) (encode_bytes w (get_or vs 0 0)) (field_bytes_bytes ws (drop 1 vs))

pub fields_at_drop : (ws : List ℕ) (n : ℕ) (t : List ℕ) (i : ℕ) → fields_at ws (drop n t) i ≡ fields_at ws t (n + i)
fields_at_drop [] n t i = refl
fields_at_drop (w ∷ ws) n t i = rw (number_drop, fields_at_drop ws n t (i + w), add_assoc)

pub fields_at_bytes : (ws vs : List ℕ) → FieldsFit ws vs → fields_at ws (field_bytes ws vs) 0 ≡ vs
unfolding number_at
fields_at_bytes [] [] f = refl
fields_at_bytes [] (v ∷ vs) f = absurd f
fields_at_bytes (w ∷ ws) [] f = absurd f
fields_at_bytes (w ∷ ws) (v ∷ vs) f =
    let r = field_bytes ws vs in
    let e : number_at w (encode w v ++ r) 0 ≡ v = ap decode (take_at (encode w v) r w (encode_length w v)) ∙ decode_encode w v f.0 in
    let g : fields_at ws (encode w v ++ r) (0 + w) ≡ vs =
    rw ((let q : 0 + w ≡ w + 0 = omega arith in q), ← fields_at_drop ws w (encode w v ++ r) 0, drop_at (encode w v) r w (encode_length w v)) (fields_at_bytes ws vs f.1) in
    rw (e, g)

pub field_bytes_at : (ws t : List ℕ) (i : ℕ) → Bytes t → i + widths ws ≤ length t → field_bytes ws (fields_at ws t i) ≡ take (widths ws) (drop i t)
field_bytes_at [] t i b h = refl
field_bytes_at (w ∷ ws) t i b h =
    rw (encode_number w t i b (omega arith), field_bytes_at ws t (i + w) b (omega arith)) (stretch_join t i w (widths ws))

pub fields_at_fit : (ws t : List ℕ) (i : ℕ) → Bytes t → FieldsFit ws (fields_at ws t i)
fields_at_fit [] t i b = tt
fields_at_fit (w ∷ ws) t i b = (number_below w t i b, fields_at_fit ws t (i + w) b)

-- the layout of a type with those fields
module _ {A : Type 0} (ws : List ℕ) {d : List ℕ → A} {e : A → List ℕ} (values : A → List ℕ) (make : List ℕ → A)
    (reads : (b : List ℕ) → values (d b) ≡ fields_at ws b 0)
    (writes : (x : A) → e x ≡ field_bytes ws (values x))
    (whole : (x : A) → make (values x) ≡ x) where
  forth : (b : List ℕ) → length b ≡ widths ws → Bytes b → e (d b) ≡ b
  forth b l h =
      writes (d b) ∙ rw (reads b, field_bytes_at ws b 0 h (omega arith)) (take_all (widths ws) b (omega arith))

  pub of_fields : Layout (widths ws) d e (λ x. FieldsFit ws (values x))
  of_fields = record {
    size = λ x. ap length (writes x) ∙ field_bytes_length ws (values x);
    byte = λ x. rw (writes x) (field_bytes_bytes ws (values x));
    back = λ x f. sym (whole (d (e x))) ∙ ap make (reads (e x) ∙ rw (writes x) (fields_at_bytes ws (values x) f)) ∙ whole x;
    forth = forth;
    fit = λ b l h. rw (reads b) (fields_at_fit ws b 0 h);
  }

-- the fields written one after another are the bytes written
put_fields_is : (ws t : List ℕ) (k i : ℕ) (vs : List ℕ) → put_fields ws t k i vs ≡ sets t (k + i) (field_bytes ws vs)
unfolding put
put_fields_is [] t k i vs = refl
put_fields_is (w ∷ ws) t k i vs =
    let b = encode w (get_or vs 0 0) in
    let q : k + (i + w) ≡ k + i + length b = rw encode_length (omega arith) in
    put_fields_is ws (sets t (k + i) b) k (i + w) (drop 1 vs) ∙ rw q (sets_more b (field_bytes ws (drop 1 vs)) t (k + i))

-- the first field at k, the others at k + w and on
pub fields_put : (w : ℕ) (ws t : List ℕ) (k v : ℕ) (vs : List ℕ) → put_fields ws (put w t k v) k w vs ≡ sets t k (field_bytes (w ∷ ws) (v ∷ vs))
unfolding put
fields_put w ws t k v vs =
    let q : k + w ≡ k + length (encode w v) = rw encode_length in
    put_fields_is ws (sets t k (encode w v)) k w vs ∙ rw q (sets_more (encode w v) (field_bytes ws vs) t k)
