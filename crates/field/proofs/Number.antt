-- Laws of numbers in bytes, over any width. Assumes nothing.
use mathlib.Core.Path.{◌≡◌, refl, sym, ap, ◌∙◌}
use mathlib.Core.Bool.{true}
use mathlib.Core.List.{List, [], ◌∷◌, ◌++◌}
use Prim.Native.Nat.{ℕ, zero, suc, ◌+◌, ◌*◌, ◌/◌, ◌%◌, ◌^◌, ◌<◌, ◌≤◌}
use native.Mathlib.Nat.{add-zero, zero-add, pow-zero, mul_assoc, mod-add-div, div-div-eq-div-mul}
use native.Mathlib.Numerals.{add-one}
use native.Mathlib.Omega.{arith, pow_step}
use borrow.Author.Tests.{leb-true}
use lib.Dec.{leb}
use lib.ListN.{length, take, drop, get_or, length-drop, get_or-append}
use lib.Seq.{sets, sets-eq, length-sets, drop-drop, length-take-le, get_or-take}
use Rattle.field.specs.Number.{encode, decode, number_at, put}
use Rattle.field.specs.Records.{Bytes}
use Rattle.field.proofs.Bytes.{bytes_take, bytes_drop}

-- ---- encode and decode
pub encode_length : (w v : ℕ) → length (encode w v) ≡ w
unfolding encode
encode_length zero v = refl
encode_length (suc w) v = ap suc (encode_length w (v / 256))

pub encode_bytes : (w v : ℕ) → Bytes (encode w v)
unfolding encode
encode_bytes zero v i = omega arith
encode_bytes (suc w) v zero = omega arith
encode_bytes (suc w) v (suc i) = encode_bytes w (v / 256) i

pub decode_encode : (w v : ℕ) → v < 256 ^ w → decode (encode w v) ≡ v
unfolding encode decode
decode_encode zero v h = let h' : v < 1 = rw pow-zero at h in omega arith
decode_encode (suc w) v h =
    let h' : v < 256 * 256 ^ w = rw pow_step at h in
    let q : v / 256 < 256 ^ w = omega arith in
    rw (decode_encode w (v / 256) q) (omega arith)

pub decode_below : (bs : List ℕ) → Bytes bs → decode bs < 256 ^ length bs
unfolding decode
decode_below [] h = rw pow-zero (omega arith)
decode_below (b ∷ bs) h = rw pow_step (omega (arith, h 0, decode_below bs (λ i. h (suc i))))

pub encode_decode : (bs : List ℕ) → Bytes bs → encode (length bs) (decode bs) ≡ bs
unfolding encode decode
encode_decode [] h = refl
encode_decode (b ∷ bs) h =
    let hb : b < 256 = h 0 in
    let e0 : (b + 256 * decode bs) % 256 ≡ b = omega arith in
    let e1 : (b + 256 * decode bs) / 256 ≡ decode bs = omega arith in
    rw (e0, e1, encode_decode bs (λ i. h (suc i)))

-- the low bytes, and then the high ones
pub encode_add : (w n v : ℕ) → encode (w + n) v ≡ encode w v ++ encode n (v / 256 ^ w)
unfolding encode
encode_add zero n v = let e : v / 256 ^ 0 ≡ v = omega arith in rw (zero-add, e)
encode_add (suc w) n v =
    let e : suc w + n ≡ suc (w + n) = omega arith in
    rw (e, encode, encode_add w n (v / 256), div-div-eq-div-mul, pow_step)

-- only the low bytes of a number are written
encode_more : (w r q : ℕ) → encode w (r + 256 ^ w * q) ≡ encode w r
unfolding encode
encode_more zero r q = refl
encode_more (suc w) r q =
    let p = 256 ^ w * q in
    let m : 256 ^ suc w * q ≡ 256 * (256 ^ w * q) = rw (pow_step, mul_assoc) in
    let e0 : (r + 256 * p) % 256 ≡ r % 256 = omega arith in
    let e1 : (r + 256 * p) / 256 ≡ r / 256 + p = omega arith in
    rw (m, e0, e1, encode_more w (r / 256) q)

pub encode_low : (w v : ℕ) → encode w (v % 256 ^ w) ≡ encode w v
encode_low w v = sym (rw (mod-add-div v (256 ^ w)) at (encode_more w (v % 256 ^ w) (v / 256 ^ w)))

-- ---- a number in a table
pub number_none : (t : List ℕ) (i : ℕ) → number_at 0 t i ≡ 0
unfolding number_at decode
number_none t i = refl

-- the lowest byte, and the others
pub number_more : (w : ℕ) (t : List ℕ) (i : ℕ) → number_at (suc w) t i ≡ get_or t i 0 + 256 * number_at w t (i + 1)
unfolding number_at decode
number_more zero [] zero = refl
number_more (suc w) [] zero = refl
number_more w (x ∷ t) zero = refl
number_more zero [] (suc i) = refl
number_more (suc w) [] (suc i) = rw add-one
number_more w (x ∷ t) (suc i) = let e : suc i + 1 ≡ suc (i + 1) = omega arith in rw e (number_more w t i)

-- where the bytes are the same, so are the numbers
pub number_same : (w : ℕ) (s t : List ℕ) (i j : ℕ) → ((k : ℕ) → k < w → get_or s (i + k) 0 ≡ get_or t (j + k) 0) → number_at w s i ≡ number_at w t j
number_same zero s t i j h = number_none s i ∙ sym (number_none t j)
number_same (suc w) s t i j h =
    let h0 : get_or s i 0 ≡ get_or t j 0 = simp add-zero at (h 0 (omega arith)) in
    let step : (x k : ℕ) → x + 1 + k ≡ x + suc k = λ x k. omega arith in
    rw (number_more w s i, number_more w t j, h0, number_same w s t (i + 1) (j + 1) (λ k l. rw (step i k, step j k) (h (suc k) (omega arith))))

pub number_drop : (w n : ℕ) (t : List ℕ) (i : ℕ) → number_at w (drop n t) i ≡ number_at w t (n + i)
unfolding number_at
number_drop w n t i = rw drop-drop

pub number_take : (w n : ℕ) (t : List ℕ) (i : ℕ) → i + w ≤ n → number_at w (take n t) i ≡ number_at w t i
number_take w n t i h = number_same w (take n t) t i i (λ k l. get_or-take n t (i + k) 0 (omega arith))

pub number_append : (w : ℕ) (a b : List ℕ) (i : ℕ) → i + w ≤ length a → number_at w (a ++ b) i ≡ number_at w a i
number_append w a b i h = number_same w (a ++ b) a i i (λ k l. get_or-append a b 0 (i + k) (omega arith))

-- a field of a stretch. That the field lies in it is a test, which computes at numerals
pub number_part : (w n k i : ℕ) (t : List ℕ) → leb (i + w) n ≡ true → number_at w (take n (drop k t)) i ≡ number_at w t (k + i)
number_part w n k i t h = number_take w n (drop k t) i (leb-true _ _ h) ∙ number_drop w k t i

pub number_below : (w : ℕ) (t : List ℕ) (i : ℕ) → Bytes t → number_at w t i < 256 ^ w
number_below zero t i h = rw (number_none, pow-zero) (omega arith)
number_below (suc w) t i h = rw (number_more, pow_step) (omega (arith, h i, number_below w t (i + 1) h))

pub number_join : (w n : ℕ) (t : List ℕ) (i : ℕ) → number_at (w + n) t i ≡ number_at w t i + 256 ^ w * number_at n t (i + w)
number_join zero n t i = rw (zero-add, number_none, pow-zero, add-zero i) (omega arith)
number_join (suc w) n t i =
    let e : suc w + n ≡ suc (w + n) = omega arith in
    let f : i + 1 + w ≡ i + suc w = omega arith in
    rw (e, number_more (w + n) t i, number_more w t i, number_join w n t (i + 1), f, pow_step) (omega arith)

-- the bytes of the number are the stretch
pub encode_number : (w : ℕ) (t : List ℕ) (i : ℕ) → Bytes t → i + w ≤ length t → encode w (number_at w t i) ≡ take w (drop i t)
unfolding number_at
encode_number w t i h l =
    let e : length (take w (drop i t)) ≡ w = length-take-le w (drop i t) (simp length-drop (omega arith)) in
    rw e at (encode_decode (take w (drop i t)) (bytes_take (drop i t) w (bytes_drop t i h)))

-- ---- a number written
pub length_put : (w : ℕ) (t : List ℕ) (at v : ℕ) → length (put w t at v) ≡ length t
unfolding put
length_put w t at v = length-sets t at (encode w v)

pub put_split : (w : ℕ) (t : List ℕ) (at v : ℕ) → at + w ≤ length t → put w t at v ≡ take at t ++ encode w v ++ drop (at + w) t
unfolding put
put_split w t at v h = rw (encode_length w v) at (sets-eq (encode w v) t at (rw (encode_length w v) h))

pub put_sets : (w : ℕ) (t : List ℕ) (at v : ℕ) → put w t at v ≡ sets t at (encode w v)
unfolding put
put_sets w t at v = refl
