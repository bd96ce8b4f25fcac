-- Sections of a file as stretches of an output. Assumes nothing.
use mathlib.Core.Path.{◌≡◌, refl, sym, ◌∙◌}
use mathlib.Core.List.{List, [], ◌++◌, append_assoc, append-nil}
use Prim.Native.Nat.{ℕ, ◌+◌, ◌-◌, ◌≤◌}
use native.Mathlib.Nat.{zero-add}
use native.Mathlib.Omega.{arith}
use lib.ListN.{length, take, drop, length-append, length-take, length-drop, drop_of_length-le}
use lib.Seq.{sets-eq, drop-drop}
use Rattle.field.specs.Number.{encode, put}
use Rattle.field.proofs.Bytes.{sets_more}
use Rattle.field.proofs.Number.{encode_length, put_sets}
use Rattle.rules.specs.File.{over}
use Rattle.save.specs.Output.{Put}

-- a stretch that is lent whole
pub lent : {y : List ℕ} (s : List ℕ) (k : ℕ) (o : List ℕ) (at to : ℕ) → length s ≡ k → to ≡ at + k → to ≤ length o
    → y ≡ over s (take (to - at) (drop at o)) → Put s k o at to (take at o ++ (y ++ drop (to - at) (drop at o)))
lent s k o at to l e h c =
    let v : to - at ≡ k = omega arith in
    let none : drop (length s) (take (to - at) (drop at o)) ≡ [] =
    drop_of_length-le (take (to - at) (drop at o)) {i = length s} (simp (length-take, length-drop) (omega arith)) in
    let f : at + length s ≤ length o = omega arith in
    record { size = l; ends = e; bytes = rw (c, none, append-nil, v, drop-drop) (sym (sets-eq s o at f ∙ rw (append_assoc, l))) }

module _ {s r : List ℕ} {k m : ℕ} {a b c : List ℕ} {i j n : ℕ} where
  -- one section behind another
  pub put_both : Put s k a i j b → Put r m b j n c → Put (s ++ r) (k + m) a i n c
  put_both p q = record {
    size = length-append s r ∙ rw (p.size, q.size);
    ends = omega (arith, p.ends, q.ends);
    bytes = q.bytes ∙ rw (p.bytes, p.ends, ← p.size) (sets_more s r a i);
  }

-- a number
pub put_one : {o' : List ℕ} (w : ℕ) (o : List ℕ) (at v : ℕ) → o' ≡ put w o at v → Put (encode w v) w o at (at + w) o'
put_one w o at v e = record { size = encode_length w v; ends = refl; bytes = e ∙ put_sets w o at v }

-- the k bytes y copied
pub put_copy : {o' : List ℕ} (y : List ℕ) (k : ℕ) (o : List ℕ) (at : ℕ) → length y ≡ k → at + k ≤ length o
    → o' ≡ take at o ++ (y ++ drop (at + k) o) → Put y k o at (at + k) o'
put_copy y k o at l h e =
    let f : at + length y ≤ length o = rw l h in
    record { size = l; ends = refl; bytes = e ∙ sym (sets-eq y o at f ∙ rw (append_assoc, l)) }

-- a stretch that is written from its start on
pub put_over : {s : List ℕ} {k : ℕ} {o : List ℕ} {n : ℕ} {o' : List ℕ} → Put s k o 0 n o' → k ≤ length o → o' ≡ over s o
put_over {s} {k} {o} p h =
    let f : 0 + length s ≤ length o = omega (arith, p.size) in
    p.bytes ∙ sets-eq s o 0 f ∙ rw (zero-add (length s))
