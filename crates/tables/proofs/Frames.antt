-- Frames count in the rules by start and length alone, and a table's headers say both. Assumes nothing.
use Rattle.std.specs.Prelude.{Option, None, Some}
use mathlib.Core.Path.{◌≡◌, refl, sym, ap, subst, ◌∙◌}
use mathlib.Core.Bool.{Bool, true, false, ◌&&◌, and-true}
use mathlib.Core.List.{List, [], ◌∷◌, ◌++◌}
use Prim.Native.Nat.{ℕ, zero, suc, ◌+◌, ◌-◌, ◌<◌, ◌≤◌}
use native.Mathlib.Nat.{add-zero}
use native.Mathlib.Omega.{arith}
use borrow.Author.Tests.{ne_eqb}
use lib.Dec.{T, eqb, leb, ltb}
use lib.ListN.{length, take, drop, replicate, length-append, length-replicate, drop_of_length-le}
use lib.Seq.{length-take-le, drop-nil, take-append-le}
use Rattle.field.specs.Records.{record_at}
use Rattle.field.proofs.Records.{records_length}
use Rattle.rules.specs.declared.Area.{Area}
use Rattle.rules.specs.declared.Checkpoint.{Checkpoint}
use Rattle.rules.specs.declared.Held.{Held}
use Rattle.rules.specs.Tests.{all, walk}
use Rattle.rules.specs.Values.{Frame, lim, checkpoint_at, frame_at, used}
use Rattle.rules.specs.File.{decode_checkpoint}
use Rattle.rules.specs.Sections.{Filled, unfilled, filled, frame_ok, frames_ok, follows, belongs, part_ok, parts_ok, reached}
use Rattle.tables.specs.declared.FrameHeader.{FrameHeader}
use Rattle.tables.specs.Tables.{checkpoints_in, decode_header, headers_in, header_at, stretch, frame_of, frames_of, frames_in, header_ok, header_next, filled_to, parts_in, before, part_next, part_near, part_here, Checked}
use Rattle.tables.proofs.Tests.{leb_left, leb_within}
use Rattle.tables.proofs.Walk.{records_turn}

-- ---- stretches of a store
pub stretch_length : (n : ℕ) (store : List ℕ) → length (stretch n store) ≡ n
unfolding stretch
stretch_length n store = length-take-le n (store ++ replicate n 0) (simp (length-append, length-replicate) (omega arith))

-- where the store has them all
pub stretch_within : (n : ℕ) (store : List ℕ) → n ≤ length store → stretch n store ≡ take n store
unfolding stretch
stretch_within n store h = take-append-le n store (replicate n 0) h

-- ---- frames by their headers
pub frames_length : (hs : List FrameHeader) (store : List ℕ) → length (frames_of hs store) ≡ length hs
unfolding frames_of
frames_length [] store = refl
frames_length (h ∷ hs) store = ap suc (frames_length hs (drop h.len store))

pub frame_start : (hs : List FrameHeader) (store : List ℕ) (i : ℕ) → (frame_at (frames_of hs store) i).start ≡ (header_at hs i).start
unfolding frames_of
frame_start [] store i = refl
frame_start (h ∷ hs) store zero = refl
frame_start (h ∷ hs) store (suc i) = frame_start hs (drop h.len store) i

pub frame_length : (hs : List FrameHeader) (store : List ℕ) (i : ℕ) → length (frame_at (frames_of hs store) i).bytes ≡ (header_at hs i).len
unfolding frames_of
frame_length [] store i = refl
frame_length (h ∷ hs) store zero = stretch_length h.len store
frame_length (h ∷ hs) store (suc i) = frame_length hs (drop h.len store) i

pub frames_used : (hs : List FrameHeader) (s t : List ℕ) → used (frames_of hs s) ≡ used (frames_of hs t)
unfolding frames_of used
frames_used [] s t = refl
frames_used (h ∷ hs) s t = rw (stretch_length h.len s, stretch_length h.len t, frames_used hs (drop h.len s) (drop h.len t))

-- ---- the rule of frames
walk_frames : (a : Area) (budget : ℕ) (s : Filled) (hs : List FrameHeader) (store : List ℕ)
    → walk (λ s f. frame_ok a budget s f.start (length f.bytes)) (λ s f. filled s f.start (length f.bytes)) s (frames_of hs store)
    ≡ walk (header_ok a budget) header_next s hs
unfolding frames_of walk
walk_frames a budget s [] store = refl
walk_frames a budget s (h ∷ hs) store = rw (stretch_length, walk_frames a budget (header_next s h) hs (drop h.len store))

pub frames_by : (a : Area) (budget : ℕ) (hs : List FrameHeader) (store : List ℕ)
    → frames_ok a budget (frames_of hs store) ≡ walk (header_ok a budget) header_next (unfilled a) hs
unfolding frames_ok
frames_by a budget hs store = walk_frames a budget (unfilled a) hs store

-- the bytes so far are within the budget
pub header_is : (a : Area) (budget floor used : ℕ) (h : FrameHeader) → used ≤ budget
    → header_ok a budget (filled_to floor used) h ≡ (leb floor h.start && (ltb h.start a.end && (leb h.len 65536 && leb h.len (budget - used))))
unfolding frame_ok all
header_is a budget floor used h g = rw (leb_left used h.len budget g) (simp and-true)

pub header_fits : (a : Area) (budget floor used : ℕ) (h : FrameHeader) → used ≤ budget → header_ok a budget (filled_to floor used) h ≡ true → used + h.len ≤ budget
header_fits a budget floor used h g e =
    let l = leb_within (leb floor h.start) (ltb h.start a.end) (leb h.len 65536) h.len (budget - used) (sym (header_is a budget floor used h g) ∙ e) in omega arith

-- ---- the rule of parts
-- two lists of frames of the same starts and lengths
pub record SameShape (fs gs : List Frame) : Type 0 where
  pub count : length fs ≡ length gs
  pub starts : (i : ℕ) → (frame_at fs i).start ≡ (frame_at gs i).start
  pub lengths : (i : ℕ) → length (frame_at fs i).bytes ≡ length (frame_at gs i).bytes

pub frames_shape : (hs : List FrameHeader) (s t : List ℕ) → SameShape (frames_of hs s) (frames_of hs t)
frames_shape hs s t = record {
  count = frames_length hs s ∙ sym (frames_length hs t);
  starts = λ i. frame_start hs s i ∙ sym (frame_start hs t i);
  lengths = λ i. frame_length hs s i ∙ sym (frame_length hs t i);
}

walk_same : {S A : Type 0} (ok ok' : S → A → Bool) (next : S → A → S) → ((s : S) (x : A) → ok s x ≡ ok' s x) → (s : S) (xs : List A)
    → walk ok next s xs ≡ walk ok' next s xs
unfolding walk
walk_same ok ok' next e s [] = refl
walk_same ok ok' next e s (x ∷ xs) = rw (e s x, walk_same ok ok' next e (next s x) xs)

module _ (a : Area) (k first : ℕ) (cs : List Checkpoint) {fs gs : List Frame} (same : SameShape fs gs) where
  pub part_shape : (o : Option Held) (p : Held) → part_ok a k first cs fs o p ≡ part_ok a k first cs gs o p
  unfolding part_ok belongs
  part_shape o p = rw (same.count, same.starts p.frame, same.lengths p.frame)

  -- parts ask of frames their starts and lengths alone
  pub parts_shape : (ps : List Held) → parts_ok a k first cs fs ps ≡ parts_ok a k first cs gs ps
  unfolding parts_ok
  parts_shape ps = rw (walk_same _ _ (λ o p. Some p) part_shape None ps, same.count)

apart : (a b c d e f : Bool) → ((c && e) && (a && (b && (d && f)))) ≡ (a && (b && (c && (d && (e && f)))))
apart a b true d true f = refl
apart true true true true false f = refl
apart true true true false false f = refl
apart true false true d false f = refl
apart false b true d false f = refl
apart true true false d e f = refl
apart true false false d e f = refl
apart false b false d e f = refl

belongs_by : {h : FrameHeader} (fs : List Frame) (a : Area) (k : ℕ) (c : Checkpoint) (p : Held)
    → (frame_at fs p.frame).start ≡ h.start → length (frame_at fs p.frame).bytes ≡ h.len → belongs a k p c (frame_at fs p.frame) ≡ belongs a k p c (frame_of h [])
unfolding belongs
belongs_by {h} fs a k c p u v = rw (u, v, stretch_length h.len [])

-- a part by its two halves, where h says its frame
pub part_by : {h : FrameHeader} (fs : List Frame) (a : Area) (k first n f : ℕ) (cps : List ℕ) (o : Option Held) (p : Held)
    → length fs ≡ f → (frame_at fs p.frame).start ≡ h.start → length (frame_at fs p.frame).bytes ≡ h.len
    → (part_near f o p && part_here a k first n (checkpoints_in n cps) p h) ≡ part_ok a k first (checkpoints_in n cps) fs o p
unfolding part_ok all
part_by {h} fs a k first n f cps o p e u v =
    let c = checkpoint_at (checkpoints_in n cps) (p.at - first) in
    rw (e, records_length 24 decode_checkpoint n cps, belongs_by fs a k c p u v, and-true (ltb p.number lim))
    (apart (leb first p.at) (ltb p.at (first + n)) (ltb p.frame f) (belongs a k p c (frame_of h [])) (follows o p) (ltb p.number lim))

-- ---- the bytes that headers speak of
abbrev pub weight : List FrameHeader → ℕ
weight hs = used (frames_of hs [])

module _ (f : ℕ) (t : List ℕ) (j : ℕ) where
  weight_turn : j < f → weight (drop j (headers_in f t)) ≡ (record_at 8 decode_header t j).len + weight (drop (j + 1) (headers_in f t))
  unfolding frames_of used
  weight_turn h = rw (records_turn 8 decode_header f t j h, drop-nil, stretch_length)

  pub weight_on : {h : FrameHeader} {x : ℕ} (u : ℕ) → j < f → h ≡ record_at 8 decode_header t j → u + weight (drop j (headers_in f t)) ≡ x
      → u + h.len + weight (drop (j + 1) (headers_in f t)) ≡ x
  weight_on {h} u l e g = omega (arith, weight_turn l, ap (λ (z : FrameHeader). z.len) e)

  pub weight_end : {x : ℕ} (u : ℕ) → f ≤ j → u + weight (drop j (headers_in f t)) ≡ x → u ≡ x
  unfolding frames_of used
  weight_end u l g =
      let n : length (headers_in f t) ≤ j = rw records_length l in
      rw (drop_of_length-le (headers_in f t) n, add-zero) at g

-- ---- what a check of frames ensures
module _ (a : Area) (budget : ℕ) (hs : List FrameHeader) (store : List ℕ) where
  any_store : frames_ok a budget (frames_of hs []) ≡ frames_ok a budget (frames_of hs store)
  any_store = frames_by a budget hs [] ∙ sym (frames_by a budget hs store)

  pub checked_no : (n : ℕ) → false ≡ frames_ok a budget (frames_of hs []) → Checked (frames_ok a budget) (frames_of hs store) false n
  checked_no n e = record { answer = e ∙ any_store; bytes_are = λ z. absurd (subst T (sym z) tt) }

  pub checked_yes : {n : ℕ} → true ≡ frames_ok a budget (frames_of hs []) → n ≡ weight hs → Checked (frames_ok a budget) (frames_of hs store) true n
  checked_yes e g = record { answer = e ∙ any_store; bytes_are = λ z. g ∙ frames_used hs [] store }

-- behind a part
pub before_next : (j : ℕ) (p : Held) → before (eqb (j + 1) 0) p ≡ Some p
unfolding before
before_next j p = rw (ne_eqb (j + 1) 0 (λ e. omega arith))

-- the walk and how far it came
pub parts_are : (a : Area) (k first n f h : ℕ) (cps headers parts store : List ℕ)
    → (walk (part_ok a k first (checkpoints_in n cps) (frames_in f headers [])) part_next None (parts_in h parts) && eqb (reached (parts_in h parts)) f)
    ≡ parts_ok a k first (checkpoints_in n cps) (frames_in f headers store) (parts_in h parts)
unfolding parts_ok all
parts_are a k first n f h cps headers parts store =
    rw (← parts_shape a k first (checkpoints_in n cps) (frames_shape (headers_in f headers) [] store) (parts_in h parts), frames_length (headers_in f headers) [], records_length 8 decode_header f headers)
    (simp and-true)
