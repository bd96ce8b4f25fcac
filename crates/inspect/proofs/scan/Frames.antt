-- A frame of a file. Assumes nothing.
use mathlib.Core.Path.{◌≡◌, refl, sym, ap, ◌∙◌}
use mathlib.Core.Bool.{Bool, true, false}
use mathlib.Core.List.{List}
use Prim.Native.Nat.{ℕ, ◌+◌, ◌<◌, ◌≤◌}
use native.Mathlib.Nat.{add-zero}
use native.Mathlib.Numerals.{add-one}
use native.Mathlib.Omega.{arith}
use borrow.Author.Tests.{leb-true, leb-false, le-leb, lt-leb}
use lib.Dec.{leb}
use lib.ListN.{length, drop, length-drop}
use lib.Seq.{drop-drop, length-take-le}
use Rattle.field.specs.Number.{number_at}
use Rattle.field.proofs.Number.{number_drop}
use Rattle.rules.specs.declared.Area.{Area}
use Rattle.rules.specs.Tests.{Answer, Refused, Accepted, first_no, after}
use Rattle.rules.specs.Values.{Frame}
use Rattle.rules.specs.Sections.{Filled, frame_ok}
use Rattle.rules.specs.Load.{Read, read, read_frame}
use Rattle.rules.proofs.Tests.{asked→, all→, accepted_eq}
use Rattle.tables.specs.declared.FrameHeader.{FrameHeader}
use Rattle.tables.specs.Tables.{header_ok, filled_to}
use Rattle.tables.specs.Files.{frame_next, frame_here}
use Rattle.inspect.specs.declared.cursor.Cursor.{Cursor}
use Rattle.inspect.specs.Cursors.{to}
use Rattle.inspect.specs.Behind.{behind}
use Rattle.inspect.proofs.Left.{read_eq, left_drop, left_more, left_at, behind_is}
use Rattle.inspect.proofs.cursor.Words.{GotPair}
use Rattle.inspect.specs.declared.scan.OneFrame.{OneFrame}
use Rattle.inspect.specs.declared.scan.OneFrame.TheVariants as frame
use Rattle.inspect.specs.Steps.{one_frame}

-- ---- one frame, of the body s from at on
module _ (a : Area) (budget : ℕ) (i : Filled) (s : List ℕ) (at : ℕ) where
  pub frame_short : length s < at + 8 → frame.Refused 20 ≡ one_frame s (read_frame a budget i (drop at s))
  unfolding read_frame after first_no one_frame
  frame_short l = let l' : length (drop at s) < 8 = simp length-drop (omega arith) in rw (lt-leb 8 (length (drop at s)) l')

  module _ {v u : ℕ} {d : Cursor} (y : GotPair s at v u d) where
    here : 8 ≤ length (drop at s)
    here = let l = y.inside in simp length-drop (omega arith)

    start_is : number_at 4 (drop at s) 0 ≡ v
    start_is = rw (number_drop 4 at s 0, add-zero) (sym y.first)

    len_is : number_at 4 (drop at s) 4 ≡ u
    len_is = rw (number_drop 4 at s 4) (sym y.second)

    pub frame_no : header_ok a budget i (record { start = v; len = u }) ≡ false → frame.Refused 32 ≡ one_frame s (read_frame a budget i (drop at s))
    unfolding read_frame after first_no one_frame
    frame_no o = rw (le-leb 8 (length (drop at s)) here, start_is, len_is, o)

    module _ (o : header_ok a budget i (record { start = v; len = u }) ≡ true) {t : Bool} (e : t ≡ leb (d.at + u) (length s)) where
      pub frame_cut : t ≡ false → frame.Refused 20 ≡ one_frame s (read_frame a budget i (drop at s))
      unfolding read_frame after first_no one_frame
      frame_cut g =
          let l = leb-false (d.at + u) (length s) (sym e ∙ g) in
          let m : d.at ≡ at + 8 = ap (λ (z : Cursor). z.at) y.moved in
          let n : length (drop at s) < 8 + u = simp length-drop (omega arith) in
          rw (le-leb 8 (length (drop at s)) here, start_is, len_is, o, lt-leb (8 + u) (length (drop at s)) n)

      pub frame_room : t ≡ true → d.at + u ≤ length s
      frame_room g = leb-true (d.at + u) (length s) (sym e ∙ g)

      pub frame_whole : t ≡ true → {c : Cursor} → c ≡ to (d.at + u) → frame.Header (record { start = v; len = u }) c ≡ one_frame s (read_frame a budget i (drop at s))
      unfolding read_frame after first_no one_frame
      frame_whole g q =
          let m : d.at ≡ at + 8 = ap (λ (z : Cursor). z.at) y.moved in
          let l = frame_room g in
          let n : 8 + u ≤ length (drop at s) = simp length-drop (omega arith) in
          let k : u ≤ length (drop 8 (drop at s)) = simp length-drop (omega arith) in
          let w : to (at + 8 + u) ≡ behind s (drop u (drop 8 (drop at s))) = rw (drop-drop 8 at s) (behind_is s (at + 8) u (omega arith)) in
          rw (le-leb 8 (length (drop at s)) here, start_is, len_is, o, le-leb (8 + u) (length (drop at s)) n, length-take-le u (drop 8 (drop at s)) k, q, m, w)

-- ---- a frame that was read, at the place here of b, and the cursor c behind it
pub record FrameRead (a : Area) (budget : ℕ) (s : Filled) (b : List ℕ) (here : ℕ) (h : FrameHeader) (c : Cursor) : Type 0 where
  pub is : read_frame a budget s (drop here b) ≡ read (frame_here (drop here b)) (drop c.at b)
  pub inside : c.at ≤ length b
  pub next : filled_to (h.start + 1) (s.used + h.len) ≡ frame_next s (frame_here (drop here b))
  pub fits : s.used + h.len ≤ budget

-- what its bytes say
module _ (a : Area) (budget : ℕ) (s : Filled) (b : List ℕ) (t : Read Frame) (e : read_frame a budget s b ≡ Accepted t) where
  pub record FrameSays : Type 0 where
    pub value : t.value ≡ frame_here b
    pub rest : t.rest ≡ drop (8 + number_at 4 b 4) b
    pub inside : 8 + number_at 4 b 4 ≤ length b
    pub fits : s.used + number_at 4 b 4 ≤ budget
    pub size : length t.value.bytes ≡ number_at 4 b 4

  pub frame_says : FrameSays
  unfolding read_frame frame_ok
  frame_says =
      let g = asked→ _ _ _ refl e in
      let q = accepted_eq _ _ g.1 in
      let n : 8 + number_at 4 b 4 ≤ length b = leb-true _ _ g.0.1.1.0 in
      let m : number_at 4 b 4 ≤ length (drop 8 b) = simp length-drop (omega arith) in
      record {
        value = ap (λ (z : Read Frame). z.value) (sym q);
        rest = ap (λ (z : Read Frame). z.rest) (sym q) ∙ drop-drop (number_at 4 b 4) 8 b;
        inside = n;
        fits = leb-true _ _ (all→ _ g.0.1.0).1.1.1.0;
        size = ap (λ (z : Read Frame). length z.value.bytes) (sym q) ∙ length-take-le (number_at 4 b 4) (drop 8 b) m;
      }

-- by the answer r about the bytes from here on
module _ (a : Area) (budget : ℕ) (s : Filled) (b : List ℕ) (here : ℕ) {r : OneFrame} (o : r ≡ one_frame b (read_frame a budget s (drop here b))) where
  pub frame_refused : {k : ℕ} → r ≡ frame.Refused k → read_frame a budget s (drop here b) ≡ Refused k
  unfolding one_frame
  frame_refused {k} g = by (read_frame a budget s (drop here b)) (sym g ∙ o) where
    by : (x : Answer (Read Frame)) → frame.Refused k ≡ one_frame b x → x ≡ Refused k
    by (Refused n) q = cc
    by (Accepted t) q = let z : ◌≡◌ {A = ℕ} 0 1 = cc in let f : ⊥ = omega arith in absurd f

  pub frame_read : here ≤ length b → {h : FrameHeader} {c : Cursor} → r ≡ frame.Header h c → FrameRead a budget s b here h c
  unfolding one_frame
  frame_read l {h} {c} g = by (read_frame a budget s (drop here b)) refl (sym g ∙ o) where
    by : (x : Answer (Read Frame)) → read_frame a budget s (drop here b) ≡ x → frame.Header h c ≡ one_frame b x → FrameRead a budget s b here h c
    by (Refused n) p q = let z : ◌≡◌ {A = ℕ} 0 1 = cc in let f : ⊥ = omega arith in absurd f
    by (Accepted v) p q =
        let d = drop here b in
        let y = frame_says a budget s d v p in
        let w : h ≡ record { start = v.value.start; len = length v.value.bytes } = cc in
        let m : c ≡ behind b v.rest = cc in
        let k = left_at (left_more (left_drop here b l) (record { at = 8 + number_at 4 d 4; inside = y.inside; is = y.rest })) m in
        let n : h.len ≡ number_at 4 d 4 = ap (λ (z : FrameHeader). z.len) w ∙ y.size in
        let i : length (frame_here d).bytes ≡ number_at 4 d 4 = sym (ap (λ (z : Frame). length z.bytes) y.value) ∙ y.size in
        let u : h.start ≡ number_at 4 d 0 = ap (λ (z : FrameHeader). z.start) w ∙ ap (λ (z : Frame). z.start) y.value in
        record { is = p ∙ ap Accepted (read_eq y.value k.0); inside = k.1; next = rw (i, n, u, add-one); fits = rw n y.fits }
