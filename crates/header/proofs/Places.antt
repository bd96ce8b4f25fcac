-- A field is read and written at its place in the table. Assumes nothing.
use mathlib.Core.Path.{◌≡◌, refl}
use mathlib.Core.List.{List, [], ◌∷◌, ◌++◌, append_assoc, append-nil}
use Prim.Native.Nat.{ℕ, zero, suc, ◌+◌, ◌<◌, ◌≤◌, ◌%◌, ◌^◌}
use native.Mathlib.Omega.{arith}
use lib.ListN.{length, get_or, set, length-take, take, drop, length-append, length-drop}
use lib.Seq.{take_at, drop-drop, drop-append-add}
use Rattle.field.specs.Number.{encode, number_at, put}
use Rattle.field.proofs.Number.{number_more, number_none, encode_length, put_split}
use Rattle.fnv.specs.Fnv.{fnv_step, fnv_from, prime64}
use Rattle.rules.specs.File.{Field, header_fields, field_at, write_fields}
use Rattle.header.specs.Place.{entry, total, Placed}

-- a byte is a number
pub number_byte : (b : List ℕ) (o : ℕ) → get_or b o 0 ≡ number_at 1 b o
number_byte b o = rw (number_more 0 b o, number_none) (omega arith)

-- what is read at the place of field number i is that field, and fits its width
pub read_place : {i o n : ℕ} (w : ℕ) (b : List ℕ) → Placed header_fields 0 i o n → n ≡ w → (r : ℕ) → r ≡ number_at w b o → r < 256 ^ w
    → (r ≡ field_at b i) × (r < 256 ^ (entry header_fields i).width)
unfolding field_at
read_place w b p q r e l = rw (← p.size, ← p.place, q) (e, l)

-- ---- fields written one after another
written_length : (fs : List Field) (vs : List ℕ) → length fs ≤ length vs → length (write_fields fs vs) ≡ total fs
unfolding write_fields
written_length [] vs h = refl
written_length (f ∷ fs) [] h = let q : ⊥ = omega arith in absurd q
written_length (f ∷ fs) (v ∷ vs) h = rw (length-append, encode_length, written_length fs vs (omega arith))

-- one field more
pub written_more : (fs : List Field) (vs : List ℕ) (i : ℕ) → i < length fs → length fs ≤ length vs
    → write_fields (take (suc i) fs) vs ≡ write_fields (take i fs) vs ++ encode (entry fs i).width (get_or vs i 0)
unfolding write_fields
written_more [] vs i h l = let q : ⊥ = omega arith in absurd q
written_more (f ∷ fs) [] i h l = let q : ⊥ = omega arith in absurd q
written_more (f ∷ fs) (v ∷ vs) zero h l = append-nil (encode f.width v)
written_more (f ∷ fs) (v ∷ vs) (suc i) h l = rw (written_more fs vs i (omega arith) (omega arith), append_assoc)

total_more : (fs : List Field) (i : ℕ) → i < length fs → total (take (suc i) fs) ≡ total (take i fs) + (entry fs i).width
total_more [] i h = let q : ⊥ = omega arith in absurd q
total_more (f ∷ fs) zero h = omega arith
total_more (f ∷ fs) (suc i) h = omega (arith, total_more fs i (omega arith))

-- a number put behind a, over the rest of t
put_behind : (w : ℕ) (a t : List ℕ) (v : ℕ) → length a + w ≤ length t
    → put w (a ++ drop (length a) t) (length a) v ≡ a ++ encode w v ++ drop (length a + w) t
put_behind w a t v h =
    let l : length a + w ≤ length (a ++ drop (length a) t) = simp (length-append, length-drop) (omega arith) in
    rw (put_split w (a ++ drop (length a) t) (length a) v l, take_at a (drop (length a) t) (length a) refl, drop-append-add, drop-drop)

-- t with the first i fields written
abbrev pub so_far : List Field → List ℕ → List ℕ → ℕ → List ℕ
so_far fs vs t i = write_fields (take i fs) vs ++ drop (total (take i fs)) t

-- the next field written
pub write_next : (fs : List Field) (vs t : List ℕ) (i : ℕ) → length fs ≤ length vs → i < length fs → total (take i fs) + (entry fs i).width ≤ length t
    → put (entry fs i).width (so_far fs vs t i) (total (take i fs)) (get_or vs i 0) ≡ so_far fs vs t (suc i)
write_next fs vs t i l h r =
    let n : length (write_fields (take i fs) vs) ≡ total (take i fs) = written_length (take i fs) vs (simp length-take (omega arith)) in
    rw (written_more fs vs i h l, total_more fs i h)
    (rw n at (put_behind (entry fs i).width (write_fields (take i fs) vs) t (get_or vs i 0) (omega arith)))

-- what is put at the place of field number i is in that field
pub put_place : {i o n : ℕ} (w : ℕ) (t : List ℕ) (u v : ℕ) → Placed header_fields 0 i o n → n ≡ w → encode w u ≡ encode w v
    → put w t o u ≡ put (entry header_fields i).width t (total (take i header_fields)) v
unfolding put
put_place {i = i} {o = o} w t u v p e q =
    let s : o ≡ total (take i header_fields) = omega arith in
    rw (← p.size, e, q, s)

pub put_byte : (t : List ℕ) (o v : ℕ) → set t o (v % 256) ≡ put 1 t o v
unfolding put encode
put_byte t o v = refl

-- the hash of as many bytes of v as field number i has
pub sum_place : {i o n : ℕ} (w u v sum r : ℕ) → Placed header_fields 0 i o n → n ≡ w → encode w u ≡ encode w v
    → r ≡ fnv_from 64 prime64 sum (encode w u) → r ≡ fnv_from 64 prime64 sum (encode (entry header_fields i).width v)
sum_place w u v sum r p e q f = rw (← p.size, e, ← q) f

-- one byte is one step
pub sum_one : (sum v r : ℕ) → r ≡ fnv_step 64 prime64 sum (v % 256) → r ≡ fnv_from 64 prime64 sum (encode 1 v)
unfolding fnv_from encode
sum_one sum v r e = e
