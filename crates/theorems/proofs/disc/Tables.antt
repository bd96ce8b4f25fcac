-- The contents table and the bodies of a saved disc file. Assumes nothing.
use Rattle.std.specs.Prelude.{Option, None, Some}
use mathlib.Core.Path.{◌≡◌, refl, sym, ap, ◌∙◌}
use mathlib.Core.Bool.{true, cond}
use mathlib.Core.List.{List, [], ◌∷◌, ◌++◌, append-nil, append_assoc}
use Prim.Native.Nat.{ℕ, suc, ◌+◌, ◌≤◌}
use native.Mathlib.Nat.{add-zero}
use native.Mathlib.Omega.{arith}
use borrow.Author.Tests.{leb-true, le-leb, eq-eqb}
use lib.Dec.{eqb}
use lib.ListN.{length, take, drop, get_or, length-append}
use lib.Seq.{take_at, drop_at}
use Rattle.field.specs.Number.{encode, decode, number_at}
use Rattle.field.specs.Records.{records, bytes_of}
use Rattle.field.specs.Fields.{FieldsFit}
use Rattle.field.proofs.Number.{encode_length, decode_encode}
use Rattle.field.proofs.Format.{Layout, Each, none as nothing, one, records_bytes, bytes_of_length}
use Rattle.field.proofs.Fields.{of_fields}
use Rattle.rules.specs.Values.{Index, max32}
use Rattle.rules.specs.File.{saved, saved_length}
use Rattle.rules.proofs.Tests.{all→, →all, test}
use Rattle.laws.proofs.Length.{saved_length_is}
use Rattle.rules_disc.specs.declared.Entry.{Entry}
use Rattle.rules_disc.specs.Disc.{entry, encode_entry, decode_entry, table_size, count_in, entries_in, laid, contents_ok, entry_of, body_at, slot_of, entries_from, contents_of, disc_bytes, bodies_length, disc_length, entries_ok}

-- ---- entries in bytes
abbrev pub EntryFits : Entry → Type 0
EntryFits e = FieldsFit (4 ∷ 4 ∷ 4 ∷ []) (e.slot ∷ e.offset ∷ e.len ∷ [])

pub entry_layout : Layout 12 decode_entry encode_entry EntryFits
unfolding decode_entry encode_entry
entry_layout =
    of_fields (4 ∷ 4 ∷ 4 ∷ []) (λ e. e.slot ∷ e.offset ∷ e.len ∷ [])
    (λ v. entry (get_or v 0 0) (get_or v 1 0) (get_or v 2 0))
    (λ b. refl) (λ e. simp append-nil) (λ e. refl)

-- ---- lists that are saved: slots 0 or 1, rising, and everything in four bytes
pub record Fit (xs : List Index) : Type 0 where
  pub few : length xs ≤ 2
  pub some' : 1 ≤ length xs
  pub slots : Each (λ x. slot_of x ≤ 1) xs
  pub rising : entries_ok 0 (contents_of xs) ≡ true

module _ (s at : ℕ) (x : Index) (xs : List Index) where
  pub record First : Type 0 where
    pub slot : s ≤ slot_of x
    pub offset : at ≤ max32
    pub len : saved_length x ≤ max32
    pub rest : entries_ok (slot_of x + 1) (entries_from (at + saved_length x) xs) ≡ true

  pub first→ : entries_ok s (entries_from at (x ∷ xs)) ≡ true → First
  unfolding entries_ok entries_from
  first→ h =
      let g = all→ _ h in
      record {
        slot = leb-true s (slot_of x) g.0;
        offset = leb-true at max32 g.1.0;
        len = leb-true (saved_length x) max32 g.1.1.0;
        rest = g.1.1.1.0;
      }

entries_fit : (s at : ℕ) {xs : List Index} → Each (λ x. slot_of x ≤ 1) xs → entries_ok s (entries_from at xs) ≡ true
    → Each EntryFits (entries_from at xs)
unfolding entries_from
entries_fit s at nothing h = nothing
entries_fit s at (one {x = x} {xs = xs} p ps) h =
    let f = first→ s at x xs h in
    one {x = entry (slot_of x) at (saved_length x)}
    (omega (arith, p), (omega (arith, f.offset), (omega (arith, f.len), tt)))
    (entries_fit (slot_of x + 1) (at + saved_length x) ps f.rest)

entries_length : (at : ℕ) (xs : List Index) → length (entries_from at xs) ≡ length xs
unfolding entries_from
entries_length at [] = refl
entries_length at (x ∷ xs) = ap suc (entries_length (at + saved_length x) xs)

laid_of : (size s at : ℕ) {xs : List Index} → Each (λ x. slot_of x ≤ 1) xs → entries_ok s (entries_from at xs) ≡ true
    → at + bodies_length xs ≡ size
    → laid size s at (entries_from at xs) ≡ true
unfolding laid entries_from bodies_length
laid_of size s at nothing h e = eq-eqb at size (sym (add-zero at) ∙ e)
laid_of size s at (one {x = x} {xs = xs} p ps) h e =
    let f = first→ s at x xs h in
    →all _ (
      le-leb s (slot_of x) f.slot,
      (
        le-leb (slot_of x) 1 p,
        (eq-eqb at at refl, (laid_of size (slot_of x + 1) (at + saved_length x) ps f.rest (omega arith), tt)),
      ),
    )

bodies_length_lemma : (xs : List Index) → length (bytes_of saved xs) ≡ bodies_length xs
unfolding bytes_of bodies_length
bodies_length_lemma [] = refl
bodies_length_lemma (x ∷ xs) = length-append (saved x) (bytes_of saved xs) ∙ rw (bodies_length_lemma xs, ← (saved_length_is x).0)

-- ---- the file's length
module _ (xs : List Index) where
  abbrev head : List ℕ
  head = encode 4 (length xs)

  abbrev table : List ℕ
  table = bytes_of encode_entry (contents_of xs)

  table_length : length (head ++ table) ≡ table_size (length xs)
  table_length =
      length-append head table ∙ rw (
        encode_length 4 (length xs),
        bytes_of_length entry_layout (contents_of xs),
        entries_length (table_size (length xs)) xs,
      ) (omega arith)

  pub disc_length_lemma : length (disc_bytes xs) ≡ disc_length xs
  unfolding disc_bytes disc_length
  disc_length_lemma =
      ap length (sym (append_assoc head table (bytes_of saved xs))) ∙ length-append (head ++ table) (bytes_of saved xs)
      ∙ rw (table_length, bodies_length_lemma xs)

-- ---- the table read back
module _ (xs : List Index) (f : Fit xs) where
  count_is : count_in (disc_bytes xs) ≡ length xs
  unfolding disc_bytes number_at
  count_is =
      ap decode (take_at (encode 4 (length xs)) _ 4 (encode_length 4 (length xs)))
      ∙ decode_encode 4 (length xs) (let l = f.few in omega arith)

  entries_are : entries_in (disc_bytes xs) ≡ contents_of xs
  unfolding disc_bytes
  entries_are =
      rw (count_is, drop_at (encode 4 (length xs)) (table xs ++ bytes_of saved xs) 4 (encode_length 4 (length xs)))
      (ap (λ (n : ℕ). records 12 decode_entry n (table xs ++ bytes_of saved xs))
      (sym (entries_length (table_size (length xs)) xs))
      ∙ records_bytes entry_layout (bytes_of saved xs) (entries_fit 0 (table_size (length xs)) f.slots f.rising))

  pub table_ok : contents_ok (disc_bytes xs) ≡ true
  unfolding contents_ok disc_length
  table_ok =
      let d = disc_length_lemma xs in
      rw (entries_are, count_is)
      (→all _ (
        le-leb 1 (length xs) f.some',
        (
          le-leb (length xs) 2 f.few,
          (
            le-leb (table_size (length xs)) (length (disc_bytes xs)) (omega arith),
            (laid_of (length (disc_bytes xs)) 0 (table_size (length xs)) f.slots f.rising (sym d), tt),
          ),
        ),
      ))

-- ---- the bodies
-- the file of slot k among lists
unfoldable pub saved_of : ℕ → List Index → Option (List ℕ)
saved_of k [] = None
saved_of k (x ∷ xs) = cond (eqb (slot_of x) k) (Some (saved x)) (saved_of k xs)

body_in_lemma : (k : ℕ) (p : List ℕ) (at : ℕ) (xs : List Index) → length p ≡ at
    → body_at (p ++ bytes_of saved xs) (entry_of k (entries_from at xs)) ≡ saved_of k xs
unfolding saved_of entries_from entry_of body_at bytes_of
body_in_lemma k p at [] e = refl
body_in_lemma k p at (x ∷ xs) e =
    let s = saved x in
    let r = bytes_of saved xs in
    let l = (saved_length_is x).0 in
    let b : take (saved_length x) (drop at (p ++ (s ++ r))) ≡ s = ap (take (saved_length x)) (drop_at p (s ++ r) at e)
    ∙ take_at s r (saved_length x) (sym l) in
    test (eqb (slot_of x) k) (λ q. rw (q, b))
    (λ q. rw (q, ← append_assoc p s r) (body_in_lemma k (p ++ s) (at + saved_length x) xs (length-append p s ∙ rw (e, ← l))))

pub body_is : (xs : List Index) (f : Fit xs) (k : ℕ) → body_at (disc_bytes xs) (entry_of k (entries_in (disc_bytes xs)))
    ≡ saved_of k xs
unfolding disc_bytes
body_is xs f k =
    rw (entries_are xs f, ← append_assoc (head xs) (table xs) (bytes_of saved xs))
    (body_in_lemma k (head xs ++ table xs) (table_size (length xs)) xs (table_length xs))
