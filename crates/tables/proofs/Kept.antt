-- Hints with their marks in an index's table, and without marks in a list or a file. Assumes nothing.
use mathlib.Core.Path.{◌≡◌, refl, sym, ap, ◌∙◌}
use mathlib.Core.Bool.{true}
use mathlib.Core.List.{List, [], ◌∷◌, ◌++◌, append-nil}
use Prim.Native.Nat.{ℕ, zero, suc, ◌+◌, ◌/◌, ◌%◌, ◌^◌, ◌<◌}
use native.Mathlib.Nat.{add-zero}
use native.Mathlib.Omega.{arith}
use borrow.Author.Tests.{ltb-true}
use lib.Dec.{leb}
use lib.ListN.{length, take, drop, get_or}
use lib.Seq.{sets}
use Rattle.field.specs.Number.{encode, number_at, put}
use Rattle.field.specs.Records.{records, Bytes}
use Rattle.field.specs.Fields.{FieldsFit}
use Rattle.field.proofs.Number.{encode_add, encode_low, number_more, number_none, number_part, number_below, number_join}
use Rattle.field.proofs.Format.{Layout, Each, one}
use Rattle.field.proofs.Fields.{of_fields, fields_put}
use Rattle.rules.specs.declared.Hint.{Hint}
use Rattle.rules.specs.Values.{lim, max_list}
use Rattle.rules.specs.File.{encode_hint, decode_hint}
use Rattle.rules.specs.Hints.{question13}
use Rattle.rules.proofs.Tests.{and_right, each→, each_map}
use Rattle.tables.specs.Tables.{hints_in, encode_kept, decode_kept, kept_in, kept_word}

-- ---- the record of an index's table
abbrev pub KeptFits : Hint → Type 0
KeptFits h = FieldsFit (4 ∷ 3 ∷ 1 ∷ []) (h.lsn ∷ h.number ∷ h.mark ∷ [])

pub kept_layout : Layout 8 decode_kept encode_kept KeptFits
unfolding decode_kept encode_kept
kept_layout =
    of_fields (4 ∷ 3 ∷ 1 ∷ []) (λ h. h.lsn ∷ h.number ∷ h.mark ∷ []) (λ v. record { lsn = get_or v 0 0; number = get_or v 1 0; mark = get_or v 2 0 })
    (λ b. refl) (λ h. simp append-nil) (λ h. refl)

-- the word without its highest byte, and that byte
number_low : (t : List ℕ) (i : ℕ) → Bytes t → number_at 4 t i % 16777216 ≡ number_at 3 t i
number_low t i b = let e = number_join 3 1 t i in let f = number_below 3 t i b in omega arith

byte_at : (t : List ℕ) (i : ℕ) → number_at 1 t i ≡ get_or t i 0
byte_at t i = number_more 0 t i ∙ rw number_none (omega arith)

pub kept_made : {l n m : ℕ} (t : List ℕ) (i : ℕ) → Bytes t → l ≡ number_at 4 t i → n ≡ number_at 4 t (i + 4) → m ≡ get_or t (i + 7) 0
    → record { lsn = l; number = n % 16777216; mark = m } ≡ decode_kept (take 8 (drop i t))
unfolding decode_kept
kept_made t i b el en em = simp (number_part, add-zero) (rw (el, en, em, number_low t (i + 4) b, byte_at t (i + 7)))

-- number and mark written as a word
word_bytes : (n m : ℕ) → encode 4 (kept_word n m) ≡ encode 3 n ++ encode 1 m
word_bytes n m =
    let w = kept_word n m in
    let low : w % 256 ^ 3 ≡ n % 256 ^ 3 = omega arith in
    let high : w / 256 ^ 3 ≡ m = omega arith in
    let e : encode 3 w ≡ encode 3 n = sym (encode_low 3 w) ∙ ap (encode 3) low ∙ encode_low 3 n in
    encode_add 3 1 w ∙ rw (e, high)

-- the fields written are the hint written
pub kept_put : (t : List ℕ) (k : ℕ) (h : Hint) → put 4 (put 4 t k h.lsn) (k + 4) (kept_word h.number h.mark) ≡ sets t k (encode_kept h)
unfolding encode_kept
kept_put t k h = fields_put 4 (4 ∷ []) t k h.lsn (kept_word h.number h.mark ∷ []) ∙ rw (append-nil, word_bytes)

pub given_put : (t : List ℕ) (k : ℕ) (h : Hint) → put 4 (put 4 t k h.lsn) (k + 4) h.number ≡ sets t k (encode_hint h)
unfolding encode_hint
given_put t k h = fields_put 4 (4 ∷ []) t k h.lsn (h.number ∷ []) ∙ simp append-nil

-- ---- a list or a file: where each number is below 2^24, both read it alike
abbrev pub Low : Hint → Type 0
Low h = h.number < 16777216

given_record : (b : List ℕ) → Low (decode_hint b) → decode_kept b ≡ decode_hint b
unfolding decode_hint decode_kept
given_record b h =
    let e = number_join 3 1 b 4 in
    let z : number_at 1 b 7 ≡ 0 = omega arith in
    let n : number_at 3 b 4 ≡ number_at 4 b 4 = omega arith in
    rw (z, n)

pub kept_given : (n : ℕ) (t : List ℕ) → Each Low (hints_in n t) → kept_in n t ≡ hints_in n t
unfolding records
kept_given zero t e = refl
kept_given (suc n) t (one p ps) = rw (given_record (take 8 t) p, kept_given n (drop 8 t) ps)

-- behind 13, and behind 36
pub kept_13 : (n : ℕ) (t : List ℕ) → question13 (hints_in n t) ≡ true → kept_in n t ≡ hints_in n t
unfolding question13
kept_13 n t q = kept_given n t (each_map (λ h p. let l = ltb-true h.number lim p in omega arith) (each→ _ (hints_in n t) (and_right (leb (length (hints_in n t)) max_list) _ q)))
