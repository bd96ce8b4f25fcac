-- Records copied behind those of a table, or over them. Assumes nothing.
use mathlib.Core.Path.{◌≡◌, sym, ap, ◌∙◌}
use mathlib.Core.Bool.{true, false}
use mathlib.Core.List.{List, ◌++◌, append_assoc}
use Prim.Native.Nat.{ℕ, ◌+◌, ◌-◌, ◌*◌, ◌≤◌}
use native.Mathlib.Nat.{add-mul, mul-le-mul_right}
use native.Mathlib.Omega.{arith}
use lib.Dec.{leb}
use lib.ListN.{length, take, drop, length-append, length-drop, take-append-drop, drop_of_length-le}
use lib.Seq.{length-take-le}
use borrow.Author.Tests.{leb-true, leb-false}
use Rattle.field.specs.Records.{records, bytes_of, Bytes}
use Rattle.field.proofs.Bytes.{bytes_drop}
use Rattle.field.proofs.Format.{Layout, bytes_records, bytes_of_append}
use Rattle.field.proofs.Records.{records_length, drop_records}
use Rattle.rules.proofs.Tests.{test}
use Rattle.laws.proofs.Layouts.{checkpoint_layout, lsn_layout}
use Rattle.rules.specs.File.{over}
use Rattle.merge.specs.Steps.{Put, Appends, Appended, Takes, LsnsTaken}

-- the first bytes of a table over it
over_first : (k : ℕ) (t : List ℕ) → k ≤ length t → t ≡ over (take k t) t
over_first k t h = sym (rw (length-take-le k t h) (take-append-drop k t))

-- past the end nothing is left
drop_most : {A : Type 0} (w : ℕ) (d : List ℕ → A) (m i k : ℕ) (u : List ℕ) → k ≡ m - i → drop i (records w d m u) ≡ drop (m - k) (records w d m u)
drop_most w d m i k u e =
    test (leb i m) (λ y. let h = leb-true i m y in let z : i ≡ m - k = omega arith in ap (λ (j : ℕ). drop j (records w d m u)) z)
    (λ y. let h = leb-false i m y in
    let a : length (records w d m u) ≤ i = rw records_length (omega arith) in let b : length (records w d m u) ≤ m - k = rw records_length (omega arith) in
    drop_of_length-le (records w d m u) a ∙ sym (drop_of_length-le (records w d m u) b))

module _ {A : Type 0} {w : ℕ} {d : List ℕ → A} {e : A → List ℕ} {Fits : A → Type 0} (l' : Layout w d e Fits) where
  -- what stands there already
  put_same : (n : ℕ) (t : List ℕ) → Bytes t → n * w ≤ length t → Put e (records w d n t) n t t
  put_same n t b h = record { count = sym (records_length w d n t); bytes = rw (bytes_records l' n t b h) (over_first (n * w) t h) }

  -- the first m of another table
  put_other : {t' : List ℕ} (m : ℕ) (t u : List ℕ) → Bytes u → m * w ≤ length u → t' ≡ take (m * w) u ++ drop (m * w) t → Put e (records w d m u) m t t'
  put_other m t u b h c =
      record { count = sym (records_length w d m u); bytes = c ∙ rw (bytes_records l' m u b h, length-take-le (m * w) u h) }

  -- those of another table from number i on behind the own
  put_from : {t' : List ℕ} (n m i k : ℕ) (t u : List ℕ) → Bytes t → Bytes u → n * w ≤ length t → m * w ≤ length u → k ≡ m - i
      → t' ≡ take (n * w) t ++ (take (k * w) (drop ((m - k) * w) u) ++ drop (n * w + k * w) t)
      → Put e (records w d n t ++ drop i (records w d m u)) (n + k) t t'
  put_from n m i k t u b c h g e' q =
      let s : m - k ≤ m = omega arith in
      let l : m - (m - k) ≡ k = omega arith in
      let y : drop i (records w d m u) ≡ records w d k (drop ((m - k) * w) u) = drop_most w d m i k u e' ∙ drop_records w d (m - k) m u s ∙ rw l in
      let r : k * w ≤ length (drop ((m - k) * w) u) = rw (length-drop ((m - k) * w) u) (let f = mul-le-mul_right w s in let z = add-mul (m - k) k w in let z' : m - k + k ≡ m = omega arith in let z'' : m * w ≡ (m - k) * w + k * w = rw z' at z in omega arith) in
      let x' = take (n * w) t in
      let y' = take (k * w) (drop ((m - k) * w) u) in
      let f : bytes_of e (records w d n t ++ drop i (records w d m u)) ≡ x' ++ y' =
      rw (y, bytes_of_append e, bytes_records l' n t b h, bytes_records l' k (drop ((m - k) * w) u) (bytes_drop u ((m - k) * w) c) r) in
      let n' : length (x' ++ y') ≡ n * w + k * w = length-append x' y' ∙ rw (length-take-le (n * w) t h, length-take-le (k * w) (drop ((m - k) * w) u) r) in
      record {
        count = sym (length-append (records w d n t) _ ∙ rw (y, records_length w d n t, records_length w d k (drop ((m - k) * w) u)));
        bytes = q ∙ rw (f, n', append_assoc);
      }

pub appended : {n m i k : ℕ} {t' : List ℕ} (t u : List ℕ) → Appends n m i t u → Bytes t → Bytes u → k ≡ m - i
    → t' ≡ take (n * 24) t ++ (take (k * 24) (drop ((m - k) * 24) u) ++ drop (n * 24 + k * 24) t) → Appended n m i t u (n + k) t'
appended {n} {m} {i} {k} t u a b c p q = put_from checkpoint_layout n m i k t u b c a.own a.other p q

pub malformed_taken : {n m : ℕ} {t' : List ℕ} (t u : List ℕ) → Takes n m t u → Bytes u → t' ≡ take (m * 4) u ++ drop (m * 4) t → LsnsTaken true n m t u m t'
malformed_taken {n} {m} t u a c e = put_other lsn_layout m t u c a.other e

pub malformed_kept : {n m : ℕ} (t u : List ℕ) → Takes n m t u → Bytes t → LsnsTaken false n m t u n t
malformed_kept {n} t u a b = put_same lsn_layout n t b a.own

-- ---- room
module _ {n m i k : ℕ} {t u : List ℕ} (a : Appends n m i t u) (p : k ≡ m - i) where
  pub append_room : (n * 24 + k * 24 ≤ length t) × ((m - k) * 24 + k * 24 ≤ length u)
  append_room = let r = a.room in let o = a.other in (omega arith, omega arith)
