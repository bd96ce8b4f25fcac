-- Records laid one after another over the start of a stretch. Assumes nothing.
use mathlib.Core.Path.{◌≡◌, refl, sym, ap, ◌∙◌}
use mathlib.Core.List.{List, [], ◌∷◌, ◌++◌, append-nil}
use Prim.Native.Nat.{ℕ, suc, ◌+◌, ◌*◌, ◌%◌, ◌≤◌}
use native.Mathlib.Nat.{zero-add}
use native.Mathlib.Omega.{arith}
use lib.ListN.{length, get_or, take, drop, set, length-set}
use lib.Seq.{sets, drop-cons}
use Rattle.field.specs.Number.{encode, put}
use Rattle.field.specs.Records.{records, bytes_of, record_at, Bytes}
use Rattle.field.proofs.Bytes.{sets_more}
use Rattle.field.proofs.Fields.{fields_put}
use Rattle.field.proofs.Format.{Layout, bytes_of_append, bytes_of_one, bytes_of_length, written}
use Rattle.field.proofs.Number.{encode_low, encode_number, number_part}
use Rattle.field.proofs.Records.{records_length, records_more}
use Rattle.rules.specs.declared.Area.{Area}
use Rattle.rules.specs.declared.Checkpoint.{Checkpoint}
use Rattle.rules.specs.declared.Held.{Held}
use Rattle.rules.specs.Values.{lsn_of}
use Rattle.rules.specs.File.{over, decode_checkpoint, decode_held, encode_hint}
use Rattle.rules_view.specs.View.{seen_from, backings_of, lengths_of, encode_seen, encode_backing, encode_held_length, encode_mark}
use Rattle.tables.specs.Tables.{checkpoints_in, parts_in, decode_kept, kept_in}
use Rattle.laws.proofs.Layouts.{hint_layout}
use Rattle.laws.proofs.Length.{length_each}
use Rattle.view.specs.Sections.{backing_of}
use Rattle.view.proofs.Layouts.{seen_layout, behind_layout, length_layout, seen_count, behind_count, lengths_count, mark_length, marks_length}
use Rattle.view.proofs.write.Words.{sets_over}

-- the records xs, laid over the start of old, give new
pub record Laid {A : Type 0} (e : A → List ℕ) (xs : List A) (old new : List ℕ) : Type 0 where
  pub bytes : new ≡ sets old 0 (bytes_of e xs)
  pub kept : length new ≡ length old

pub laid_none : {A : Type 0} (e : A → List ℕ) (old : List ℕ) → Laid e [] old old
unfolding bytes_of
laid_none e old = record { bytes = refl; kept = refl }

module _ {A : Type 0} {w : ℕ} (e : A → List ℕ) (l : (x : A) → length (e x) ≡ w) where
  size_of : (xs : List A) → length (bytes_of e xs) ≡ length xs * w
  size_of xs = length_each e w l xs ∙ omega arith

  -- one more, number j, from k on
  pub laid_more : {xs ys : List A} {old new new' : List ℕ} (j k : ℕ) (x : A) → k ≡ j * w → length xs ≡ j → ys ≡ xs ++ (x ∷ []) → Laid e xs old new
      → new' ≡ sets new k (e x) → length new' ≡ length new → Laid e ys old new'
  laid_more {xs} {ys} {old} j k x m n y i c z =
      let at : k ≡ 0 + length (bytes_of e xs) = m ∙ rw (size_of xs, n, zero-add) in
      let all : bytes_of e xs ++ e x ≡ bytes_of e ys = rw (y, bytes_of_append e xs (x ∷ []), bytes_of_one e x) in
      record {
        bytes = c ∙ rw (i.bytes, at) (sets_more (bytes_of e xs) (e x) old 0) ∙ ap (sets old 0) all;
        kept = z ∙ i.kept;
      }

  -- all n of them
  pub laid_all : (f : ℕ → List A) (c : (k : ℕ) → length (f k) ≡ k) {j n : ℕ} {old new : List ℕ} → j ≤ n → n ≤ j → Laid e (f j) old new → n * w ≤ length old
      → new ≡ over (bytes_of e (f n)) old
  laid_all f c {j} {n} {old} h g i r =
      let q : j ≡ n = omega arith in
      i.bytes ∙ rw q (sets_over (bytes_of e (f n)) (n * w) old (size_of (f n) ∙ rw (c n)) r)

module _ {A : Type 0} {w : ℕ} {d : List ℕ → A} {e : A → List ℕ} {Fits : A → Type 0} (l : Layout w d e Fits) where
  -- the first n records of a table, copied
  pub copied : {o' : List ℕ} (n : ℕ) (t o : List ℕ) → Bytes t → n * w ≤ length t → o' ≡ take (n * w) t ++ drop (n * w) o
      → o' ≡ over (bytes_of e (records w d n t)) o
  copied n t o b h c = written l n t o b h c ∙ rw (bytes_of_length l (records w d n t), records_length)

  pub copied_bytes : (n : ℕ) (t : List ℕ) → length (bytes_of e (records w d n t)) ≡ n * w
  copied_bytes n t = bytes_of_length l (records w d n t) ∙ rw records_length

-- ---- what a view shows of one more checkpoint or part
seen_append : (a : Area) (k i j : ℕ) (cs : List Checkpoint) (c : Checkpoint) → j ≡ i + length cs
    → seen_from a k i (cs ++ (c ∷ [])) ≡ seen_from a k i cs ++ (record { lsn = lsn_of a k j; threshold = c.threshold } ∷ [])
unfolding seen_from
seen_append a k i j [] c h = let q : j ≡ i = omega arith in rw q refl
seen_append a k i j (d ∷ cs) c h = rw (seen_append a k (suc i) j cs c (omega arith)) refl

behind_append : (cs : List Checkpoint) (c : Checkpoint) → backings_of (cs ++ (c ∷ [])) ≡ backings_of cs ++ (backing_of c ∷ [])
unfolding backings_of
behind_append [] c = refl
behind_append (d ∷ cs) c = rw (behind_append cs c) refl

lengths_append : (ps : List Held) (p : Held) → lengths_of (ps ++ (p ∷ [])) ≡ lengths_of ps ++ (record { at = p.at; len = p.len } ∷ [])
unfolding lengths_of
lengths_append [] p = refl
lengths_append (q ∷ ps) p = rw (lengths_append ps p) refl

module _ (a : Area) (k j : ℕ) (t : List ℕ) where
  pub seen_more : seen_from a k 0 (checkpoints_in (j + 1) t)
      ≡ seen_from a k 0 (checkpoints_in j t) ++ (record { lsn = lsn_of a k j; threshold = (record_at 24 decode_checkpoint t j).threshold } ∷ [])
  seen_more =
      rw (records_more 24 decode_checkpoint j t)
      (seen_append a k 0 j (checkpoints_in j t) (record_at 24 decode_checkpoint t j) (let n = records_length 24 decode_checkpoint j t in omega arith))

  pub seen_are : length (seen_from a k 0 (checkpoints_in j t)) ≡ j
  seen_are = seen_count a k 0 (checkpoints_in j t) ∙ records_length 24 decode_checkpoint j t

  pub seen_bytes : length (bytes_of encode_seen (seen_from a k 0 (checkpoints_in j t))) ≡ j * 8
  seen_bytes = bytes_of_length seen_layout (seen_from a k 0 (checkpoints_in j t)) ∙ rw seen_are

module _ (j : ℕ) (t : List ℕ) where
  pub behind_more : backings_of (checkpoints_in (j + 1) t) ≡ backings_of (checkpoints_in j t) ++ (backing_of (record_at 24 decode_checkpoint t j) ∷ [])
  behind_more = rw (records_more 24 decode_checkpoint j t) (behind_append (checkpoints_in j t) (record_at 24 decode_checkpoint t j))

  pub behind_are : length (backings_of (checkpoints_in j t)) ≡ j
  behind_are = behind_count (checkpoints_in j t) ∙ records_length 24 decode_checkpoint j t

  pub behind_bytes : length (bytes_of encode_backing (backings_of (checkpoints_in j t))) ≡ j * 12
  behind_bytes = bytes_of_length behind_layout (backings_of (checkpoints_in j t)) ∙ rw behind_are

  pub lengths_more : lengths_of (parts_in (j + 1) t)
      ≡ lengths_of (parts_in j t) ++ (record { at = (record_at 24 decode_held t j).at; len = (record_at 24 decode_held t j).len } ∷ [])
  lengths_more = rw (records_more 24 decode_held j t) (lengths_append (parts_in j t) (record_at 24 decode_held t j))

  pub lengths_are : length (lengths_of (parts_in j t)) ≡ j
  lengths_are = lengths_count (parts_in j t) ∙ records_length 24 decode_held j t

  pub lengths_bytes : length (bytes_of encode_held_length (lengths_of (parts_in j t))) ≡ j * 8
  lengths_bytes = bytes_of_length length_layout (lengths_of (parts_in j t)) ∙ rw lengths_are

-- ---- one record
-- an LSN by its low four bytes, and the threshold
pub seen_put : {new : List ℕ} (old : List ℕ) (k : ℕ) {lsn lsn' : ℕ} {c c' : Checkpoint} → lsn ≡ lsn' → c ≡ c'
    → new ≡ sets old k (encode 4 (lsn % 4294967296) ++ encode 4 c.threshold)
    → new ≡ sets old k (encode_seen (record { lsn = lsn'; threshold = c'.threshold }))
unfolding encode_seen
seen_put old k {lsn} e f g = g ∙ rw (encode_low 4 lsn, e, f)

pub backing_put : {t1 t2 : List ℕ} (t : List ℕ) (k : ℕ) (c : Checkpoint) → t1 ≡ put 4 t k c.back → t2 ≡ put 8 t1 (k + 4) c.digest
    → t2 ≡ sets t k (encode_backing (backing_of c))
unfolding encode_backing
backing_put t k c e f = f ∙ rw e (fields_put 4 (8 ∷ []) t k c.back (c.digest ∷ []) ∙ simp append-nil)

pub length_put : {new : List ℕ} (old : List ℕ) (k : ℕ) {p p' : Held} → p ≡ p' → new ≡ sets old k (encode 4 p.at ++ encode 4 p.len)
    → new ≡ sets old k (encode_held_length (record { at = p'.at; len = p'.len }))
unfolding encode_held_length
length_put old k e g = g ∙ rw e

-- ---- a kept mark, copied
mark_at : (t : List ℕ) (j : ℕ) → Bytes t → j * 8 + 8 ≤ length t → take 1 (drop (j * 8 + 7) t) ≡ encode_mark (record_at 8 decode_kept t j)
unfolding encode_mark decode_kept
mark_at t j b h = sym (rw (number_part 1 8 (j * 8) 7 t refl) (encode_number 1 t (j * 8 + 7) b (omega arith)))

mark_byte : (t : List ℕ) (j : ℕ) → Bytes t → j * 8 + 8 ≤ length t → encode_mark (record_at 8 decode_kept t j) ≡ get_or t (j * 8 + 7) 0 ∷ []
mark_byte t j b h = sym (mark_at t j b h) ∙ rw (drop-cons t (j * 8 + 7) 0 (omega arith))

-- one mark more
pub marks_more : {old new new' : List ℕ} (t : List ℕ) (j : ℕ) → Laid encode_mark (kept_in j t) old new
    → new' ≡ set new j (get_or t (j * 8 + 7) 0) → Bytes t → j * 8 + 8 ≤ length t → Laid encode_mark (kept_in (j + 1) t) old new'
marks_more {new = new} t j i c b h =
    laid_more encode_mark mark_length j j (record_at 8 decode_kept t j) (omega arith) (records_length 8 decode_kept j t) (records_more 8 decode_kept j t) i
    (rw (mark_byte t j b h) c) (ap length c ∙ length-set new j (get_or t (j * 8 + 7) 0))

pub hints_bytes : (n : ℕ) (t : List ℕ) → length (bytes_of encode_hint (kept_in n t)) ≡ n * 8
hints_bytes n t = size_of encode_hint hint_layout.size (kept_in n t) ∙ rw records_length

pub marks_bytes : (n : ℕ) (t : List ℕ) → length (bytes_of encode_mark (kept_in n t)) ≡ n
marks_bytes n t = marks_length (kept_in n t) ∙ records_length 8 decode_kept n t
