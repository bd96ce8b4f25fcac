-- What a section that was read leaves, and where the cursor is behind it. Assumes nothing.
use mathlib.Core.Path.{◌≡◌, refl, sym, ap, ◌∙◌}
use mathlib.Core.Bool.{Bool, true}
use mathlib.Core.List.{List}
use Prim.Native.Nat.{ℕ, zero, suc, ◌+◌, ◌*◌, ◌-◌, ◌≤◌}
use native.Mathlib.Nat.{zero-mul, suc-mul}
use native.Mathlib.Omega.{arith}
use borrow.Author.Tests.{leb-true}
use lib.Dec.{leb}
use lib.ListN.{length, take, drop, length-drop}
use lib.Seq.{drop-drop, length-take-le}
use Rattle.field.specs.Number.{number_at}
use Rattle.field.specs.Records.{records}
use Rattle.field.proofs.Number.{number_drop}
use Rattle.rules.specs.declared.Area.{Area}
use Rattle.rules.specs.declared.Checkpoint.{Checkpoint}
use Rattle.rules.specs.declared.Confirmation.{Confirmation}
use Rattle.rules.specs.declared.Header.{Header}
use Rattle.rules.specs.declared.HintHeader.{HintHeader}
use Rattle.rules.specs.Tests.{Answer, Refused, Accepted}
use Rattle.rules.specs.Values.{Frame, used}
use Rattle.rules.specs.Sections.{Filled, risen, hint_lsn, confirmed_lsn}
use Rattle.rules.specs.File.{decode_held, decode_lsn}
use Rattle.rules.specs.Load.{Read, read, read_each, read_record, read_frame, read_frames, read_parts, read_hint_section, read_confirmed_section, HintSection, hint_number, confirmed_number}
use Rattle.rules.proofs.Tests.{test, asked→, accepted_eq, bind→, number_of_accepted}
use Rattle.tables.specs.Tables.{parts_in, lsns_in}
use Rattle.tables.specs.Files.{frame_next, place_at, frames_read, each_read}
use Rattle.tables.proofs.Reading.{Steady, read_each_lemma, steady_record, steady_part, steady_frame, listed_records}
use Rattle.tables.proofs.Files.{place_first, place_shift, place_inside}
use Rattle.inspect.specs.declared.cursor.Cursor.{Cursor}
use Rattle.inspect.specs.declared.cursor.Word.{Word}
use Rattle.inspect.specs.declared.cursor.Word.TheVariants as word
use Rattle.inspect.specs.declared.cursor.Headed.{Headed}
use Rattle.inspect.specs.declared.cursor.Headed.TheVariants as headed
use Rattle.inspect.specs.Behind.{behind, headed_of, counted_of}
use Rattle.inspect.specs.declared.scan.Taken.{Taken}
use Rattle.inspect.specs.declared.scan.Taken.TheVariants as taken
use Rattle.inspect.specs.Steps.{taken_of, read_lsns}
use Rattle.inspect.proofs.Left.{read_eq, Left, left_all, left_drop, left_more, left_at, each_left, Wide, wide_leaves, read_room}
use Rattle.inspect.proofs.scan.Frames.{frame_says}
use Rattle.inspect.proofs.scan.Parts.{wide_part}

wide_record : {S A : Type 0} (w : ℕ) (d : List ℕ → A) (ok : S → A → Bool) (k : ℕ) → leb 1 k ≡ true → Wide (read_record w d ok k) w
unfolding read_record
wide_record {A = A} w d ok k h =
    record { wide = λ s b t e. let g = asked→ _ _ _ (rw h) e in (leb-true _ _ g.0.0, ap (λ (z : Read A). z.rest) (sym (accepted_eq _ _ g.1))) }

-- ---- a section that an inspector took
pub taken_refused : {A : Type 0} {x : Answer (Read A)} (b : List ℕ) {r : Taken} {k : ℕ} → r ≡ taken_of b x → r ≡ taken.Refused k → x ≡ Refused k
unfolding taken_of
taken_refused {A} {x} b {r} {k} o e = by x (sym e ∙ o) where
  by : (x : Answer (Read A)) → taken.Refused k ≡ taken_of b x → x ≡ Refused k
  by (Refused n) q = cc
  by (Accepted t) q = let z : ◌≡◌ {A = ℕ} 0 1 = cc in let f : ⊥ = omega arith in absurd f

-- what was read, and the cursor d behind it
record TookSome {A : Type 0} (s : List ℕ) (x : Answer (Read A)) (d : Cursor) : Type 0 where
  value : Read A
  is : x ≡ Accepted value
  moved : d ≡ behind s value.rest

took : {A : Type 0} (s : List ℕ) (x : Answer (Read A)) {r : Taken} {d : Cursor} → r ≡ taken_of s x → r ≡ taken.Behind d → TookSome s x d
unfolding taken_of
took {A} s x {r} {d} o e = by x refl (sym e ∙ o) where
  by : (y : Answer (Read A)) → x ≡ y → taken.Behind d ≡ taken_of s y → TookSome s x d
  by (Refused k) p q = let z : ◌≡◌ {A = ℕ} 0 1 = cc in let f : ⊥ = omega arith in absurd f
  by (Accepted t) p q = record { value = t; is = p; moved = cc }

-- records that were taken of the body s from at on: v is the list of them
pub record Took {A : Type 0} (x : Answer (Read A)) (v : A) (s : List ℕ) (at : ℕ) (d : Cursor) (size : ℕ) : Type 0 where
  pub is : x ≡ read v (drop d.at s)
  pub inside : d.at ≤ length s
  pub room : size ≤ length (drop at s)

records_taken : {S A : Type 0} {q : S → List ℕ → Answer (Read A)} (w : ℕ) (f : List ℕ → A) → Wide q w → Steady q (λ b. f (take w b)) (drop w) → (next : S → A → S)
    (m : ℕ) (i : S) (s : List ℕ) (at : ℕ) → at ≤ length s → {r : Taken} {d : Cursor} → r ≡ taken_of s (read_each q next m i (drop at s)) → r ≡ taken.Behind d
    → Took (read_each q next m i (drop at s)) (records w f m (drop at s)) s at d (m * w)
records_taken {A = A} {q = q} w f wide steady next m i s at h o e =
    let b = drop at s in
    let y = took s (read_each q next m i b) o e in
    let l = left_at (left_more (left_drop at s h) (each_left (wide_leaves wide) next m i b y.value y.is)) y.moved in
    let j = read_each_lemma steady next m i b (number_of_accepted _ _ y.is) in
    let g : y.value.value ≡ records w f m b = ap (λ (z : Read (List A)). z.value) (accepted_eq _ _ (sym y.is ∙ j)) ∙ listed_records w f m b in
    record { is = y.is ∙ ap Accepted (read_eq g l.0); inside = l.1; room = read_room wide next m i b y.value y.is }

abbrev pub TookParts : Area → Header → List Checkpoint → List Frame → List ℕ → ℕ → Cursor → Type 0
TookParts a h cs fs s at d = Took (read_parts a h cs fs (drop at s)) (parts_in h.parts (drop at s)) s at d (h.parts * 24)

pub parts_taken : (a : Area) (h : Header) (cs : List Checkpoint) (fs : List Frame) (s : List ℕ) (at : ℕ) → at ≤ length s → {r : Taken} {d : Cursor}
    → r ≡ taken_of s (read_parts a h cs fs (drop at s)) → r ≡ taken.Behind d → TookParts a h cs fs s at d
parts_taken a h cs fs s at l o e = records_taken 24 decode_held (wide_part a h.interval cs fs) (steady_part a h.interval cs fs) _ h.parts _ s at l o e

abbrev pub TookLsns : Area → Header → ℕ → List ℕ → ℕ → Cursor → Type 0
TookLsns a h front s at d = Took (read_lsns a h front (drop at s)) (lsns_in h.malformed (drop at s)) s at d (h.malformed * 4)

pub lsns_taken : (a : Area) (h : Header) (front : ℕ) (s : List ℕ) (at : ℕ) → at ≤ length s → {r : Taken} {d : Cursor} → r ≡ taken_of s (read_lsns a h front (drop at s))
    → r ≡ taken.Behind d → TookLsns a h front s at d
lsns_taken a h front s at l o e = records_taken 4 decode_lsn (wide_record 4 decode_lsn _ 35 refl) (steady_record 4 decode_lsn _ 35) _ h.malformed _ s at l o e

-- ---- frames that were taken
frames_behind : (a : Area) (budget f : ℕ) (s : Filled) (b : List ℕ) (at : ℕ) (t : Read (List Frame)) → at ≤ length b
    → read_each (read_frame a budget) frame_next f s (drop at b) ≡ Accepted t → (place_at b at f ≤ length b) × (t.rest ≡ drop (place_at b at f) b)
unfolding read_each place_at
frames_behind a budget zero s b at t l e = (l, ap (λ (z : Read (List Frame)). z.rest) (sym (accepted_eq _ _ e)))
frames_behind a budget (suc f) s b at t l e =
    let u = bind→ (read_frame a budget s (drop at b)) _ _ e in
    let v = bind→ (read_each (read_frame a budget) frame_next f (frame_next s u.value.value) u.value.rest) _ _ u.second in
    let y = frame_says a budget s (drop at b) u.value u.first in
    let n : number_at 4 (drop at b) 4 ≡ number_at 4 b (at + 4) = number_drop 4 at b 4 in
    let m : at + (8 + number_at 4 b (at + 4)) ≡ at + 8 + number_at 4 b (at + 4) = omega arith in
    let i : 8 + number_at 4 b (at + 4) ≤ length b - at = (rw (n, length-drop) at y.inside) in
    let d : u.value.rest ≡ drop (at + 8 + number_at 4 b (at + 4)) b = y.rest ∙ drop-drop (8 + number_at 4 (drop at b) 4) at b ∙ rw (n, m) in
    let g = frames_behind a budget f (frame_next s u.value.value) b (at + 8 + number_at 4 b (at + 4)) v.value (omega arith) (sym (ap (λ (z : List ℕ). read_each (read_frame a budget) frame_next f (frame_next s u.value.value) z) d) ∙ v.first) in
    let p = place_shift b at f in
    (rw p g.0, ap (λ (z : Read (List Frame)). z.rest) (sym (accepted_eq _ _ v.second)) ∙ g.1 ∙ rw p)

-- the bytes of frames
used_is : (f : ℕ) (b : List ℕ) (at : ℕ) → place_at b at f ≤ length b → at + f * 8 + used (frames_read f (drop at b)) ≡ place_at b at f
unfolding used each_read
used_is zero b at l = omega (arith, place_first b at, zero-mul 8)
used_is (suc f) b at l =
    let m = number_at 4 b (at + 4) in
    let i : at + 8 + m ≤ length b = omega (arith, rw (← place_first b at) at (place_inside b at (suc f) 0 (omega arith))) in
    let l' : place_at b (at + 8 + m) f ≤ length b = rw (place_shift b at f) at l in
    let n : m ≤ length (drop 8 (drop at b)) = simp length-drop (omega arith) in
    let g = used_is f b (at + 8 + m) l' in
    let q : at + (8 + m) ≡ at + 8 + m = omega arith in
    rw (place_shift b at f, number_drop 4 at b 4, length-take-le m (drop 8 (drop at b)) n, drop-drop, drop-drop, q, suc-mul)
    (omega arith)

-- the cursor behind n bytes of s
placed_at : (s : List ℕ) {rest : List ℕ} {n : ℕ} → n ≤ length s → rest ≡ drop n s → {d : Cursor} → d ≡ behind s rest → d.at ≡ n
placed_at s {rest} {n} h e {d} g =
    let m : length rest ≡ length s - n = ap length e ∙ length-drop n s in
    ap (λ (z : Cursor). z.at) g ∙ omega arith

pub record TookFrames (a : Area) (h : Header) (s : List ℕ) (at : ℕ) (d : Cursor) : Type 0 where
  pub is : read_frames a h (drop at s) ≡ read (frames_read h.frames (drop at s)) (drop d.at s)
  pub inside : d.at ≤ length s
  pub room : place_at (drop at s) 0 h.frames ≤ length (drop at s)
  pub bytes : at + h.frames * 8 + used (frames_read h.frames (drop at s)) ≡ d.at

pub frames_taken : (a : Area) (h : Header) (s : List ℕ) (at : ℕ) → at ≤ length s → {r : Taken} {d : Cursor} → r ≡ taken_of s (read_frames a h (drop at s)) → r ≡ taken.Behind d
    → TookFrames a h s at d
frames_taken a h s at l {r} {d} o e =
    let b = drop at s in
    let y = took s (read_frames a h b) o e in
    let p = frames_behind a h.budget h.frames _ s at y.value l y.is in
    let v = left_at (record { at = place_at s at h.frames; inside = p.0; is = p.1 }) y.moved in
    let f = read_each_lemma (steady_frame a h.budget) frame_next h.frames _ b (number_of_accepted _ _ y.is) in
    let g : y.value.value ≡ frames_read h.frames b = ap (λ (z : Read (List Frame)). z.value) (accepted_eq _ _ (sym y.is ∙ f)) in
    record {
      is = y.is ∙ ap Accepted (read_eq g v.0);
      inside = v.1;
      room = (frames_behind a h.budget h.frames _ b 0 y.value (omega arith) y.is).0;
      bytes = used_is h.frames s at p.0 ∙ sym (placed_at s p.0 p.1 y.moved);
    }

-- ---- the hint section and the confirmations
leaves_hints : (a : Area) (h : Header) (b : List ℕ) (t : Read HintSection) → read_hint_section a h b ≡ Accepted t → Left b t.rest
unfolding read_hint_section hint_number
leaves_hints a h b t e =
    test (leb 2 h.version)
    (λ v.
    let g = asked→ _ _ _ refl (rw v at e) in
    let u = bind→ _ _ _ g.1 in
    rw (← accepted_eq _ _ u.second)
    (left_more (left_drop 24 b (leb-true _ _ g.0.0)) (each_left (wide_leaves (wide_record 8 _ _ 36 refl)) (risen hint_lsn) _ _ _ u.value u.first)))
    (λ v. rw (← accepted_eq _ _ (rw v at e)) (left_all b))

leaves_confirmed : (a : Area) (h : Header) (most : ℕ) (b : List ℕ) (t : Read (List Confirmation)) → read_confirmed_section a h most b ≡ Accepted t → Left b t.rest
unfolding read_confirmed_section confirmed_number
leaves_confirmed a h most b t e =
    test (leb 3 h.version)
    (λ v.
    let g = asked→ _ _ _ refl (rw v at e) in
    left_more (left_drop 8 b (leb-true _ _ g.0.0)) (each_left (wide_leaves (wide_record 16 _ _ 37 refl)) (risen confirmed_lsn) _ _ _ t g.1))
    (λ v. rw (← accepted_eq _ _ (rw v at e)) (left_all b))

-- a section of the body s from at on, and the cursor d behind it
pub record TookHints (a : Area) (h : Header) (s : List ℕ) (at : ℕ) (g : HintHeader) (d : Cursor) : Type 0 where
  pub value : Read HintSection
  pub is : read_hint_section a h (drop at s) ≡ Accepted value
  pub header : value.value.header ≡ g
  pub rest : value.rest ≡ drop d.at s
  pub inside : d.at ≤ length s

pub record TookConfirmed (a : Area) (h : Header) (most : ℕ) (s : List ℕ) (at n : ℕ) (d : Cursor) : Type 0 where
  pub value : Read (List Confirmation)
  pub is : read_confirmed_section a h most (drop at s) ≡ Accepted value
  pub count : length value.value ≡ n
  pub rest : length value.rest ≡ length s - d.at

module _ (a : Area) (h : Header) (s : List ℕ) (at : ℕ) (l : at ≤ length s) {r : Headed} (o : r ≡ headed_of s (read_hint_section a h (drop at s))) where
  pub headed_refused : {k : ℕ} → r ≡ headed.Refused k → read_hint_section a h (drop at s) ≡ Refused k
  unfolding headed_of
  headed_refused {k} e = by (read_hint_section a h (drop at s)) (sym e ∙ o) where
    by : (x : Answer (Read HintSection)) → headed.Refused k ≡ headed_of s x → x ≡ Refused k
    by (Refused n) q = cc
    by (Accepted t) q = let z : ◌≡◌ {A = ℕ} 0 1 = cc in let f : ⊥ = omega arith in absurd f

  pub hints_taken : {g : HintHeader} {d : Cursor} → r ≡ headed.Header g d → TookHints a h s at g d
  unfolding headed_of
  hints_taken {g} {d} e = by (read_hint_section a h (drop at s)) refl (sym e ∙ o) where
    by : (x : Answer (Read HintSection)) → read_hint_section a h (drop at s) ≡ x → headed.Header g d ≡ headed_of s x → TookHints a h s at g d
    by (Refused n) p q = let z : ◌≡◌ {A = ℕ} 0 1 = cc in let f : ⊥ = omega arith in absurd f
    by (Accepted t) p q =
        let w : d ≡ behind s t.rest = cc in
        let y = left_at (left_more (left_drop at s l) (leaves_hints a h (drop at s) t p)) w in
        record { value = t; is = p; header = cc; rest = y.0; inside = y.1 }

module _ (a : Area) (h : Header) (most : ℕ) (s : List ℕ) (at : ℕ) (l : at ≤ length s) {r : Word} (o : r ≡ counted_of s (read_confirmed_section a h most (drop at s))) where
  pub counted_refused : {k : ℕ} → r ≡ word.Refused k → read_confirmed_section a h most (drop at s) ≡ Refused k
  unfolding counted_of
  counted_refused {k} e = by (read_confirmed_section a h most (drop at s)) (sym e ∙ o) where
    by : (x : Answer (Read (List Confirmation))) → word.Refused k ≡ counted_of s x → x ≡ Refused k
    by (Refused n) q = cc
    by (Accepted t) q = let z : ◌≡◌ {A = ℕ} 0 1 = cc in let f : ⊥ = omega arith in absurd f

  pub confirmed_taken : {n : ℕ} {d : Cursor} → r ≡ word.Number n d → TookConfirmed a h most s at n d
  unfolding counted_of
  confirmed_taken {n} {d} e = by (read_confirmed_section a h most (drop at s)) refl (sym e ∙ o) where
    by : (x : Answer (Read (List Confirmation))) → read_confirmed_section a h most (drop at s) ≡ x → word.Number n d ≡ counted_of s x → TookConfirmed a h most s at n d
    by (Refused k) p q = let z : ◌≡◌ {A = ℕ} 0 1 = cc in let f : ⊥ = omega arith in absurd f
    by (Accepted t) p q =
        let w : d ≡ behind s t.rest = cc in
        let y = left_at (left_more (left_drop at s l) (leaves_confirmed a h most (drop at s) t p)) w in
        record { value = t; is = p; count = cc; rest = ap length y.0 ∙ length-drop d.at s }
