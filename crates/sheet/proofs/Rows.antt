-- The row of a file, from what inspecting it says. Assumes nothing.
use Rattle.std.specs.Prelude.{Option}
use Prim.Native.Nat.{ℕ, ◌-◌, ◌≤◌, ◌<◌}
use mathlib.Core.Path.{◌≡◌, refl, sym, ap, ◌∙◌}
use mathlib.Core.Bool.{true, false}
use mathlib.Core.List.{List}
use native.Mathlib.Omega.{arith}
use borrow.Author.Tests.{eqb-true, ltb-true, leb-true, le-ltb, lt-leb}
use lib.Dec.{eqb, leb, ltb}
use lib.ListN.{length, take, length-take}
use Rattle.field.specs.Records.{Bytes}
use Rattle.rules.specs.declared.Area.{Area}
use Rattle.rules.specs.declared.AreaKey.{AreaKey}
use Rattle.rules.specs.declared.Header.{Header}
use Rattle.rules.specs.Tests.{all, Answer, Refused, Accepted, first_no, after, bind}
use Rattle.rules.specs.Values.{Index, used}
use Rattle.rules.specs.Questions.{area_ok, question1, question2, question4}
use Rattle.rules.specs.File.{read_header}
use Rattle.rules.specs.Load.{body_in, header_number, file_number, from_bytes}
use Rattle.rules.proofs.Tests.{test, never, choose, all→, asked}
use Rattle.laws.proofs.Facts.{numbers_ok→, scan_ok→}
use Rattle.laws.proofs.Loaded.{loaded_valid}
use Rattle.laws.proofs.scans.Parts.{frames_used}
use Rattle.inspect.specs.declared.Found.{Found}
use Rattle.inspect.specs.declared.Inspected.TheVariants as inspected
use Rattle.inspect.specs.Inspect.{found_in, inspection_of, inspection}
use Rattle.rules_coverage.specs.Lines.{line_of}
use Rattle.rules_coverage.specs.Coverage.{key_in, area_in, range_ok, row_from, row_of, file_row, line_row}
use Rattle.sheet.specs.declared.line.Parsed.TheVariants as parsed
use Rattle.sheet.specs.declared.row.RowAnswer.{RowAnswer}
use Rattle.sheet.specs.declared.row.RowAnswer.TheVariants as answer
use Rattle.sheet.specs.Lines.{line_in}
use Rattle.sheet.specs.Rows.{answer_in, asked_slot, asked_key, found_row}

-- the area that a file is inspected under
abbrev pub asked_area : List ℕ → ℕ → ℕ → Area
asked_area b s e = record { key = asked_key b; start = s; end = e }

-- ---- the key that stands in
pub key_is : (b : List ℕ) (h : Header) {n : ℕ} → 88 ≤ length b → h ≡ read_header (take (length b - 8) b) → n ≡ asked_slot h.slot
    → ◌≡◌ {A = AreaKey} (record { slot = n; start = h.start; end = h.end; channels = h.channels; sectors = h.sectors }) (asked_key b)
unfolding asked_key
key_is b h l e q =
    rw (le-ltb (length b) 88 l, q, e)

-- a refusal does not look at what comes after it
after_refused : {A : Type 0} (n : ℕ) (r q : Answer A) → eqb n 0 ≡ false → after n r ≡ after n q
unfolding after
after_refused n r q e = rw e

-- 24 refuses a slot above 1, whatever the area
module _ (h : Header) (left : ℕ) (o : leb h.slot 1 ≡ false) where
  slot_asked : (a : Area) → header_number a h left ≡ 0 → leb h.slot 1 ≡ true
  unfolding header_number
  slot_asked a q = let g = asked _ refl q in g.1.0

  slot_refused : (a : Area) → eqb (header_number a h left) 0 ≡ false
  slot_refused a = test (eqb (header_number a h left) 0) (λ e. never (slot_asked a (eqb-true (header_number a h left) 0 e)) o) (λ e. e)

  slot_same : (a c : Area) → header_number a h left ≡ header_number c h left
  unfolding header_number first_no
  slot_same a c = rw o

-- a file without a header is 20 or 21
short_refused : (b : List ℕ) → length b < 88 → eqb (file_number b) 0 ≡ false
unfolding file_number first_no
short_refused b h =
    test (leb 8 (length b))
    (λ e. let k = length-take (length b - 8) b in let n : length (body_in b) < 80 = omega (arith, leb-true 8 (length b) e) in rw (e, lt-leb 80 (length (body_in b)) n))
    (λ e. rw e)

module _ (b : List ℕ) (s e : ℕ) where
  pub asked_same : from_bytes (asked_area b s e) b ≡ from_bytes (area_in b s e) b
  unfolding from_bytes asked_key asked_slot
  asked_same =
      let h = read_header (body_in b) in
      test (ltb (length b) 88) (λ t. after_refused (file_number b) _ _ (short_refused b (ltb-true (length b) 88 t)))
      (λ t. rw t (test (leb h.slot 1) (λ o. rw o)
      (λ o. ap (after (file_number b)) (rw (slot_same h _ o _ (area_in b s e)) (after_refused _ _ _ (slot_refused h _ o (area_in b s e)))))))

  asked_slot_lemma : leb (asked_key b).slot 1 ≡ true
  unfolding asked_key asked_slot
  asked_slot_lemma =
      choose (λ (k : AreaKey). leb k.slot 1 ≡ true) (ltb (length b) 88) _ _ (λ t. refl)
      (λ t. choose (λ n. leb n 1 ≡ true) (leb (key_in b).slot 1) (key_in b).slot 0 (λ o. o) (λ o. refl))

  pub asked_ok : range_ok s e ≡ true → area_ok (asked_area b s e) ≡ true
  unfolding area_ok range_ok all
  asked_ok o = rw asked_slot_lemma o

-- ---- what inspecting says
passed_is : (b : List ℕ) (found : Found) (r : Answer Index) → inspected.Passed found ≡ inspection_of b r
    → (x : Index) × ((r ≡ Accepted x) × (found ≡ found_in b x))
unfolding inspection_of
passed_is b found (Refused m) e = let z : ◌≡◌ {A = ℕ} 0 1 = cc in let f : ⊥ = omega arith in absurd f
passed_is b found (Accepted x) e = (x, (refl, cc))

refused_is : (b : List ℕ) (n : ℕ) (r : Answer Index) → inspected.Refused n ≡ inspection_of b r → r ≡ Refused n
unfolding inspection_of
refused_is b n (Refused m) e = cc
refused_is b n (Accepted x) e = let z : ◌≡◌ {A = ℕ} 0 1 = cc in let f : ⊥ = omega arith in absurd f

pub held_small : (a : Area) (b : List ℕ) (x : Index) → Bytes b → area_ok a ≡ true → from_bytes a b ≡ Accepted x → used x.scan.frames ≤ 4294967295
unfolding question2 question4
held_small a b x y o e =
    let v = loaded_valid a b x y o e in
    let n = numbers_ok→ x.scan.interval x.scan.budget v.two in
    let f = scan_ok→ x.scan (all→ _ v.four).0 in
    let u = frames_used x.scan.area x.scan.budget x.scan.frames f.frames in
    omega arith

list_row : (b : List ℕ) (s e : ℕ) → range_ok s e ≡ true → (x : Index) → from_bytes (area_in b s e) b ≡ Accepted x → (r : RowAnswer)
    → r ≡ found_row (found_in b x) → answer_in r ≡ row_of b s e
unfolding answer_in row_of first_no after bind found_row row_from
list_row b s e o x i r q = rw (q, o, i)

module _ (b : List ℕ) (s e : ℕ) where
  pub no_range : range_ok s e ≡ false → answer_in (answer.Refused 1) ≡ row_of b s e
  unfolding answer_in row_of first_no after
  no_range o = rw o

  module _ (o : range_ok s e ≡ true) where
    pub no_row : {n : ℕ} → inspected.Refused n ≡ inspection (asked_area b s e) b → answer_in (answer.Refused n) ≡ row_of b s e
    unfolding answer_in row_of first_no after bind
    no_row {n} i = rw (o, ← asked_same b s e, refused_is b n (from_bytes (asked_area b s e) b) i)

    module _ {found : Found} (i : inspected.Passed found ≡ inspection (asked_area b s e) b) where
      pub row_needs : Bytes b → (area_ok found.index.area ≡ true) × (found.used ≤ 4294967295)
      unfolding question1
      row_needs y =
          let p = passed_is b found (from_bytes (asked_area b s e) b) i in
          let k = asked_ok b s e o in
          rw p.1.1 ((loaded_valid (asked_area b s e) b p.0 y k p.1.0).one, held_small (asked_area b s e) b p.0 y k p.1.0)

      pub row_found : (r : RowAnswer) → r ≡ found_row found → answer_in r ≡ row_of b s e
      row_found r q =
          let p = passed_is b found (from_bytes (asked_area b s e) b) i in
          list_row b s e o p.0 (sym (asked_same b s e) ∙ p.1.0) r (q ∙ ap found_row p.1.1)

-- ---- the row of a line
module _ (s : List ℕ) (f : Option (List ℕ)) where
  pub no_line : line_in s parsed.Broken ≡ line_of s → answer_in (answer.Refused 46) ≡ line_row (line_of s) f
  unfolding line_in answer_in line_row
  no_line q = rw (← q)

  pub a_line : (k a e : ℕ) (r : RowAnswer) → line_in s (parsed.Line k a e) ≡ line_of s → answer_in r ≡ file_row f a e → answer_in r ≡ line_row (line_of s) f
  unfolding line_in line_row
  a_line k a e r q p = rw (← q) p
