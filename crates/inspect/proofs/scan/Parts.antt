-- A part of a file, and its frame there. Assumes nothing.
use Rattle.std.specs.Prelude.{Option}
use mathlib.Core.Path.{◌≡◌, refl, sym, ap, ◌∙◌}
use mathlib.Core.Bool.{Bool, true, false, ◌&&◌, ◌||◌, not, cond}
use mathlib.Core.List.{List}
use mathlib.Core.Logic.{⊎_elim, ◌⊎◌, inl, inr}
use Prim.Native.Nat.{ℕ, ◌+◌, ◌<◌, ◌≤◌}
use native.Mathlib.Nat.{add-zero}
use native.Mathlib.Numerals.{add-one}
use native.Mathlib.Omega.{arith}
use borrow.Author.Tests.{leb-true, leb-false, le-leb, lt-leb, ltb-true, eqb-true, eq-eqb, ne_eqb, not-true, not-false}
use lib.Dec.{eqb, leb, ltb}
use lib.ListN.{length, take, drop, length-drop}
use Rattle.field.specs.Number.{number_at}
use Rattle.field.proofs.Number.{number_drop, number_take}
use Rattle.rules.specs.declared.Area.{Area}
use Rattle.rules.specs.declared.Checkpoint.{Checkpoint}
use Rattle.rules.specs.declared.Header.{Header}
use Rattle.rules.specs.declared.Held.{Held}
use Rattle.rules.specs.Tests.{Answer, Refused, Accepted, first_no, after}
use Rattle.rules.specs.Values.{Frame, frame_at, same_kind, no_held}
use Rattle.rules.specs.Sections.{follows, part_ok}
use Rattle.rules.specs.File.{decode_held}
use Rattle.rules.specs.Load.{Read, read, read_part}
use Rattle.rules.proofs.Tests.{test, and_left, and_right, asked→, accepted_eq}
use Rattle.tables.specs.declared.FrameHeader.{FrameHeader}
use Rattle.tables.specs.Tables.{checkpoints_in, decode_header, before, part_near, part_here}
use Rattle.tables.specs.Files.{place_at, frames_read}
use Rattle.tables.proofs.Tests.{follows_is}
use Rattle.tables.proofs.Frames.{part_by}
use Rattle.tables.proofs.Files.{place_inside, read_start, read_length, read_count}
use Rattle.inspect.specs.declared.cursor.Cursor.{Cursor}
use Rattle.inspect.specs.declared.cursor.OneHeld.{OneHeld}
use Rattle.inspect.specs.declared.cursor.OneHeld.TheVariants as held
use Rattle.inspect.specs.Cursors.{to, held_at}
use Rattle.inspect.specs.Behind.{behind}
use Rattle.inspect.proofs.Left.{read_eq, left_drop, left_more, left_at, behind_is, Wide, wide_leaves}
use Rattle.inspect.proofs.cursor.Words.{held_got}
use Rattle.inspect.specs.declared.scan.OnePart.{OnePart}
use Rattle.inspect.specs.declared.scan.OnePart.TheVariants as part
use Rattle.inspect.specs.declared.scan.Placed.{Placed}
use Rattle.inspect.specs.Steps.{placed, one_part, placed_if, part_rule, HeaderReads, LastAt}

-- ---- the frame of a part
-- a part that passed the first half of its rule is of the frame of the part before it, or of the next
pub record Near (f : ℕ) (q p : Held) : Type 0 where
  pub below : p.frame < f
  pub step : (p.frame ≡ q.frame) ⊎ (p.frame ≡ q.frame + 1)

either : (x y i : ℕ) (r t : Bool) → (t && ((eqb x y && r) || eqb x i)) ≡ true → (x ≡ y) ⊎ (x ≡ i)
either x y i r t e = by (eqb x y) refl (and_right t _ e) where
  by : (z : Bool) → eqb x y ≡ z → ((z && r) || eqb x i) ≡ true → (x ≡ y) ⊎ (x ≡ i)
  by true w g = inl (eqb-true x y w)
  by false w g = inr (eqb-true x i g)

next_or_same : (begins : Bool) (q p : Held) → (begins ≡ true → q.frame ≡ 0) → follows (before begins q) p ≡ true → (p.frame ≡ q.frame) ⊎ (p.frame ≡ q.frame + 1)
unfolding follows before
next_or_same true q p z e = inl (eqb-true p.frame 0 e ∙ sym (z refl))
next_or_same false q p z e =
    either p.frame q.frame (q.frame + 1) (leb q.len p.len && (eqb q.number p.number && same_kind q.kind p.kind)) (ltb q.at p.at)
    (sym (follows_is false q p refl) ∙ e)

-- the header that stands at place
header_start : {h : FrameHeader} (b : List ℕ) (place : ℕ) → h ≡ decode_header (take 8 (drop place b)) → number_at 4 b place ≡ h.start
unfolding decode_header
header_start b place e = rw (e, number_take 4 8 (drop place b) 0 (omega arith), number_drop 4 place b 0, add-zero)

header_len : {h : FrameHeader} (b : List ℕ) (place : ℕ) → h ≡ decode_header (take 8 (drop place b)) → number_at 4 b (place + 4) ≡ h.len
unfolding decode_header
header_len b place e = rw (e, number_take 4 8 (drop place b) 4 (omega arith), number_drop 4 place b 4)

module _ {a : Area} {h : Header} {checkpoints frames : List ℕ} (y : HeaderReads a h checkpoints frames) {begins : Bool} {last : Placed} (t : LastAt frames begins last) (p : Held) where
  -- by the part before it alone
  pub part_far : {u : Bool} (c : Cursor) → u ≡ part_near h.frames (before begins last.part) p → not u ≡ true
      → part.Refused 32 ≡ placed_if frames p c (part_rule a h checkpoints frames begins last p)
  unfolding placed_if
  part_far {u} c e g =
      let fs = frames_read h.frames frames in
      let n : part_near h.frames (before begins last.part) p ≡ false = sym e ∙ not-true u g in
      rw (
        sym (part_by {h = record { start = (frame_at fs p.frame).start; len = length (frame_at fs p.frame).bytes }} fs a h.interval 0 h.checkpoints h.frames
            checkpoints (before begins last.part) p (read_count h.frames frames) refl refl),
        n,
      )

  pub near : {u : Bool} → u ≡ part_near h.frames (before begins last.part) p → not u ≡ false → Near h.frames last.part p
  near {u} e g =
      let n : part_near h.frames (before begins last.part) p ≡ true = sym e ∙ not-false u g in
      record {
        below = ltb-true p.frame h.frames (and_left (ltb p.frame h.frames) (follows (before begins last.part) p) n);
        step = next_or_same begins last.part p t.first (and_right (ltb p.frame h.frames) (follows (before begins last.part) p) n);
      }

  module _ (n : Near h.frames last.part p) where
    last_below : last.part.frame < h.frames
    last_below =
        ⊎_elim (λ (s : p.frame ≡ last.part.frame). omega (arith, n.below)) (λ (s : p.frame ≡ last.part.frame + 1). omega (arith, n.below)) n.step

    pub place_room : last.place + 8 + number_at 4 frames (last.place + 4) ≤ length frames
    place_room = rw t.place (omega (arith, y.inside, place_inside frames 0 h.frames last.part.frame last_below))

    pub place_moved : {r : ℕ} → r ≡ cond (not (eqb p.frame last.part.frame)) (last.place + 8 + number_at 4 frames (last.place + 4)) last.place
        → r ≡ place_at frames 0 p.frame
    unfolding place_at
    place_moved g =
        ⊎_elim
        (λ (s : p.frame ≡ last.part.frame). (rw (eq-eqb p.frame last.part.frame s) at g) ∙ t.place ∙ rw s)
        (λ (s : p.frame ≡ last.part.frame + 1).
        let d : eqb p.frame last.part.frame ≡ false = ne_eqb p.frame last.part.frame (λ z. omega arith) in
        (rw d at g) ∙ rw (s, add-one, t.place))
        n.step

    pub header_room : {r : ℕ} → r ≡ place_at frames 0 p.frame → r + 8 ≤ length frames
    header_room g = omega (arith, g, y.inside, place_inside frames 0 h.frames p.frame n.below)

    -- by the header of its frame
    pub part_here_lemma : {g : FrameHeader} {place : ℕ} {u v : Bool} → place ≡ place_at frames 0 p.frame → g ≡ decode_header (take 8 (drop place frames))
        → u ≡ part_near h.frames (before begins last.part) p → not u ≡ false
        → v ≡ part_here a h.interval 0 h.checkpoints (checkpoints_in h.checkpoints checkpoints) p g
        → part_rule a h checkpoints frames begins last p ≡ v
    part_here_lemma {g} {place} {u} {v} e q w z x =
        let m : part_near h.frames (before begins last.part) p ≡ true = sym w ∙ not-false u z in
        let s : number_at 4 frames (place_at frames 0 p.frame) ≡ g.start = rw (← e) (header_start frames place q) in
        let l : number_at 4 frames (place_at frames 0 p.frame + 4) ≡ g.len = rw (← e) (header_len frames place q) in
        sym (part_by (frames_read h.frames frames) a h.interval 0 h.checkpoints h.frames checkpoints (before begins last.part) p (read_count h.frames frames)
        (read_start h.frames p.frame frames 0 n.below ∙ s) (read_length h.frames p.frame frames 0 n.below y.inside ∙ l))
        ∙ rw (m, ← x)

pub placed_no : (frames : List ℕ) (p : Held) (c : Cursor) {ok v : Bool} → ok ≡ v → not v ≡ true → part.Refused 32 ≡ placed_if frames p c ok
unfolding placed_if
placed_no frames p c {ok} {v} e g = rw (e, not-true v g)

pub placed_yes : (frames : List ℕ) (p : Held) (c : Cursor) {ok v : Bool} {place : ℕ} → ok ≡ v → not v ≡ false → place ≡ place_at frames 0 p.frame
    → part.Part (record { part = p; place = place }) c ≡ placed_if frames p c ok
unfolding placed_if
placed_yes frames p c {ok} {v} e g q = rw (e, not-false v g, q)

-- ---- one part, of the body s from at on
module _ (a : Area) (k : ℕ) (cs : List Checkpoint) (fs : List Frame) (o : Option Held) (frames s : List ℕ) (at : ℕ) {r : OneHeld} (e : r ≡ held_at s at) where
  pub part_stopped : {n : ℕ} → r ≡ held.Refused n → part.Refused n ≡ one_part s frames (read_part a k cs fs o (drop at s))
  unfolding held_at read_part after first_no one_part
  part_stopped {n} g =
      test (leb (at + 24) (length s))
      (λ l.
      let i : at + 24 ≤ length s = leb-true (at + 24) (length s) l in
      let j : 24 ≤ length (drop at s) = simp length-drop (omega arith) in
      test (leb (number_at 4 s (at + 20)) 1)
      (λ m. let q : held.Part (decode_held (take 24 (drop at s))) (to (at + 24)) ≡ held.Refused n = rw (l, m) at (sym e ∙ g) in let z : ◌≡◌ {A = ℕ} 0 1 = cc in let f : ⊥ = omega arith in absurd f)
      (λ m.
      let q : held.Refused 33 ≡ held.Refused n = rw (l, m) at (sym e ∙ g) in
      let w : n ≡ 33 = cc in
      rw (le-leb 24 (length (drop at s)) j, number_drop 4 at s 20, m, w)))
      (λ l.
      let i : length s < at + 24 = leb-false (at + 24) (length s) l in
      let j : length (drop at s) < 24 = simp length-drop (omega arith) in
      let q : held.Refused 20 ≡ held.Refused n = rw l at (sym e ∙ g) in
      let w : n ≡ 20 = cc in
      rw (lt-leb 24 (length (drop at s)) j, w))

  pub part_ruled : {p : Held} {c : Cursor} → r ≡ held.Part p c → {x : OnePart} → x ≡ placed_if frames p c (part_ok a k 0 cs fs o p)
      → x ≡ one_part s frames (read_part a k cs fs o (drop at s))
  unfolding read_part first_no placed_if after one_part
  part_ruled {p} {c} g q =
      let y = held_got s at e g in
      let i : at + 24 ≤ length s = y.inside in
      let j : 24 ≤ length (drop at s) = simp length-drop (omega arith) in
      rw (le-leb 24 (length (drop at s)) j, number_drop 4 at s 20, y.kind, ← y.value) (q ∙ by (y.moved ∙ behind_is s at 24 i) (part_ok a k 0 cs fs o p)) where
        by : c ≡ behind s (drop 24 (drop at s)) → (ok : Bool) → placed_if frames p c ok ≡ one_part s frames (after (cond ok 0 32) (read p (drop 24 (drop at s))))
        by m true = ap (part.Part (placed frames p)) m
        by m false = refl

-- ---- a part that was read, at the place here of b, and the cursor c behind it
pub wide_part : (a : Area) (k : ℕ) (cs : List Checkpoint) (fs : List Frame) → Wide (read_part a k cs fs) 24
unfolding read_part
wide_part a k cs fs =
    record { wide = λ s b t e. let g = asked→ _ _ _ refl e in (leb-true _ _ g.0.0, ap (λ (z : Read Held). z.rest) (sym (accepted_eq _ _ g.1))) }

pub record PartRead (a : Area) (k : ℕ) (cs : List Checkpoint) (fs : List Frame) (o : Option Held) (frames b : List ℕ) (here : ℕ) (next : Placed) (c : Cursor) : Type 0 where
  pub is : read_part a k cs fs o (drop here b) ≡ read next.part (drop c.at b)
  pub inside : c.at ≤ length b
  pub place : next.place ≡ place_at frames 0 next.part.frame

-- by the answer r about the bytes from here on
module _ (a : Area) (k : ℕ) (cs : List Checkpoint) (fs : List Frame) (o : Option Held) (frames b : List ℕ) (here : ℕ) {r : OnePart}
    (i : r ≡ one_part b frames (read_part a k cs fs o (drop here b))) where
  pub part_refused : {n : ℕ} → r ≡ part.Refused n → read_part a k cs fs o (drop here b) ≡ Refused n
  unfolding one_part
  part_refused {n} g = by (read_part a k cs fs o (drop here b)) (sym g ∙ i) where
    by : (x : Answer (Read Held)) → part.Refused n ≡ one_part b frames x → x ≡ Refused n
    by (Refused m) q = cc
    by (Accepted t) q = let z : ◌≡◌ {A = ℕ} 0 1 = cc in let f : ⊥ = omega arith in absurd f

  pub part_read : here ≤ length b → {next : Placed} {c : Cursor} → r ≡ part.Part next c → PartRead a k cs fs o frames b here next c
  unfolding one_part
  part_read l {next} {c} g = by (read_part a k cs fs o (drop here b)) refl (sym g ∙ i) where
    by : (x : Answer (Read Held)) → read_part a k cs fs o (drop here b) ≡ x → part.Part next c ≡ one_part b frames x → PartRead a k cs fs o frames b here next c
    by (Refused m) p q = let z : ◌≡◌ {A = ℕ} 0 1 = cc in let f : ⊥ = omega arith in absurd f
    by (Accepted v) p q =
        let w : next ≡ placed frames v.value = cc in
        let m : c ≡ behind b v.rest = cc in
        let y = left_at (left_more (left_drop here b l) ((wide_leaves (wide_part a k cs fs)).leaves o (drop here b) v p)) m in
        record { is = p ∙ ap Accepted (read_eq (ap (λ (z : Placed). z.part) (sym w)) y.0); inside = y.1; place = rw w }

-- ---- the part before the next one
pub last_none : (frames : List ℕ) {q : Held} → q ≡ no_held → LastAt frames true (record { part = q; place = 0 })
unfolding place_at
last_none frames e = record { place = rw e; first = λ z. rw e }

pub last_next : {frames : List ℕ} (j : ℕ) {next : Placed} → next.place ≡ place_at frames 0 next.part.frame → LastAt frames (eqb (j + 1) 0) next
last_next j e = record { place = e; first = λ z. absurd (let w : j + 1 ≡ 0 = eqb-true _ _ z in let f : ⊥ = omega arith in f) }
