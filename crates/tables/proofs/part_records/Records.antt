-- Laws of records that are written: kinds, a frame's header, a held part. Assumes nothing.
use mathlib.Core.Path.{◌≡◌, ◌∙◌}
use mathlib.Core.List.{List, [], ◌∷◌, ◌++◌, append-nil, append_assoc}
use Prim.Native.Nat.{ℕ, ◌+◌}
use lib.ListN.{length, length-append}
use lib.Seq.{sets}
use Rattle.field.specs.Number.{encode, put}
use Rattle.field.proofs.Bytes.{sets_more}
use Rattle.field.proofs.Number.{encode_length}
use Rattle.field.proofs.Fields.{fields_put}
use Rattle.rules.specs.declared.Held.{Held}
use Rattle.rules.specs.File.{unsigned32, kind_number, encode_held}

-- ---- records of fields
pub header_put : {t1 t2 : List ℕ} (t : List ℕ) (k start len : ℕ) → t1 ≡ put 4 t k start → t2 ≡ put 4 t1 (k + 4) len → t2 ≡ sets t k (encode 4 start ++ encode 4 len)
header_put t k start len e g = g ∙ rw e (fields_put 4 (4 ∷ []) t k start (len ∷ []) ∙ simp append-nil)

pub three_put : {t1 t2 t3 : List ℕ} (t : List ℕ) (k a b c : ℕ) → t1 ≡ put 4 t k a → t2 ≡ put 4 t1 (k + 4) b → t3 ≡ put 4 t2 (k + 8) c
    → t3 ≡ sets t k (encode 4 a ++ (encode 4 b ++ encode 4 c))
three_put t k a b c e f g = g ∙ rw (f, e) (fields_put 4 (4 ∷ 4 ∷ []) t k a (b ∷ c ∷ []) ∙ simp append-nil)

-- a part in its two halves
pub held_put : {t1 t2 : List ℕ} (t : List ℕ) (k : ℕ) (p : Held) {r n : ℕ} → r ≡ unsigned32 p.remaining → n ≡ kind_number p.kind
    → t1 ≡ sets t k (encode 4 p.at ++ (encode 4 p.frame ++ encode 4 p.len)) → t2 ≡ sets t1 (k + 12) (encode 4 p.number ++ (encode 4 r ++ encode 4 n)) → t2 ≡ sets t k (encode_held p)
unfolding encode_held
held_put t k p {r} {n} e g b c =
    let x = encode 4 p.at ++ (encode 4 p.frame ++ encode 4 p.len) in
    let l : k + 12 ≡ k + length x = simp (length-append, encode_length) in
    c ∙ rw (b, e, g, l) (sets_more x (encode 4 p.number ++ (encode 4 (unsigned32 p.remaining) ++ encode 4 (kind_number p.kind))) t k ∙ simp append_assoc)
