-- Merging and loading leave numbers that fit their types. Assumes nothing.
use Rattle.std.specs.Prelude.{None}
use mathlib.Core.Path.{◌≡◌}
use mathlib.Core.Bool.{Bool, true, cond}
use mathlib.Core.List.{List, [], ◌∷◌, ◌++◌}
use Prim.Native.Nat.{ℕ, ◌-◌, min}
use lib.Dec.{leb, ltb}
use lib.Signed.{mag}
use lib.ListN.{length}
use Rattle.rules.specs.declared.Checkpoint.{Checkpoint}
use Rattle.rules.specs.declared.Held.{Held}
use Rattle.rules.specs.Tests.{each, last_or}
use Rattle.rules.specs.Values.{Frame, max64, no_frame, no_held, frame_at, count, Scan}
use Rattle.rules.specs.PartRule.{Stored, Piece, last_frame, opens, opened, grown, stores, add_part, piece, add_parts}
use Rattle.rules.specs.Merge.{further, taken_scan, merged_scan}
use Rattle.rules.specs.Load.{fitting, within, limited_scan}
use Rattle.rules.specs.Sizes.{frame_sized, scan_sized}
use Rattle.rules.proofs.Tests.{choose, all→, →all, each_none, each_cons, each_head, each_tail, each_append, each_take, each_drop, each_set, each_or, each_at}
use Rattle.laws.proofs.scans.PartRule.{add_parts_keep}

abbrev byte_sized : ℕ → Bool
byte_sized b = ltb b 256

abbrev part_sized : Held → Bool
part_sized p = ltb (mag p.remaining) 2147483648

abbrev digest_sized : Checkpoint → Bool
digest_sized c = leb c.digest max64

-- a frame of bytes
byte_frame : (s : ℕ) (bs : List ℕ) → each byte_sized bs ≡ true → frame_sized (record { start = s; bytes = bs }) ≡ true
unfolding frame_sized
byte_frame s bs h = h

at_sized : (fs : List Frame) (i : ℕ) → each frame_sized fs ≡ true → each byte_sized (frame_at fs i).bytes ≡ true
unfolding frame_sized
at_sized fs i h = each_or frame_sized fs i no_frame (each_none byte_sized) h

abbrev pub HeldSized : Stored → Type 0
HeldSized h = (each frame_sized h.frames ≡ true) × (each part_sized h.parts ≡ true)

one_sized : {A : Type 0} (p : A → Bool) (xs : List A) (x : A) → each p xs ≡ true → p x ≡ true → each p (xs ++ (x ∷ [])) ≡ true
one_sized p xs x h k = each_append p xs (x ∷ []) h (each_cons p x [] k (each_none p))

pub add_part_sized : (budget : ℕ) (h : Stored) (p : Piece) → HeldSized h → each byte_sized p.bytes ≡ true → ltb (mag p.remaining) 2147483648 ≡ true
    → HeldSized (add_part budget h p)
unfolding add_part last_or
add_part_sized budget h p s b r =
    choose HeldSized (stores budget h p) (cond (opens h p) (opened h p) (grown h p)) h
    (λ e. choose HeldSized (opens h p) (opened h p) (grown h p)
    (λ o. (one_sized frame_sized h.frames _ s.0 (byte_frame p.start p.bytes b), one_sized part_sized h.parts _ s.1 r))
    (λ o. (
      each_set frame_sized h.frames (length h.frames - 1) _
          (byte_frame (last_frame h).start _
          (each_append byte_sized (last_frame h).bytes _ (at_sized h.frames (length h.frames - 1) s.0) (each_drop byte_sized (length (last_frame h).bytes) p.bytes b)))
          s.0,
      one_sized part_sized h.parts _ s.1 r,
    )))
    (λ e. s)

-- each frame and part of a scan fits
merge_sized : (budget : ℕ) (gs : List Frame) (n : ℕ) (ps : List Held) (h : Stored) → each frame_sized gs ≡ true → each part_sized ps ≡ true → HeldSized h
    → HeldSized (add_parts budget gs n ps h)
merge_sized budget gs n ps h g k s =
    add_parts_keep (λ o x. HeldSized x) (λ o p. part_sized p ≡ true) budget gs n (λ o p x w l t. t)
    (λ o p x w l t. add_part_sized budget x (piece gs p) t (each_take byte_sized p.len (frame_at gs p.frame).bytes (at_sized gs p.frame g)) w)
    None ps h (λ i l. each_at part_sized no_held ps i k l) s

pub merged_sized : (own other : Scan) → scan_sized own ≡ true → scan_sized other ≡ true → scan_sized (merged_scan own other) ≡ true
unfolding scan_sized merged_scan
merged_sized own other h k =
    let a = all→ _ h in let b = all→ _ k in
    let s = merge_sized own.budget other.frames (length own.checkpoints) other.parts (record { frames = own.frames; parts = own.parts }) b.1.1.0 b.1.1.1.0 (a.1.1.0, a.1.1.1.0) in
    let cs = each_append digest_sized own.checkpoints _ a.1.0 (each_drop digest_sized (count own) other.checkpoints b.1.0) in
    choose (λ x. scan_sized x ≡ true) (further own other) (taken_scan own other) own (λ f. →all _ (a.0, (cs, (s.0, (s.1, tt))))) (λ f. h)

fit_sized : (b : ℕ) (fs : List Frame) → each frame_sized fs ≡ true → each frame_sized (fitting b fs) ≡ true
unfolding fitting
fit_sized b [] h = h
fit_sized b (f ∷ fs) h =
    choose (λ l. each frame_sized l ≡ true) (leb (length f.bytes) b) (f ∷ fitting (b - length f.bytes) fs) []
    (λ e. each_cons frame_sized f _ (each_head frame_sized f fs h) (fit_sized (b - length f.bytes) fs (each_tail frame_sized f fs h)))
    (λ e. each_none frame_sized)

in_sized : (n : ℕ) (ps : List Held) → each part_sized ps ≡ true → each part_sized (within n ps) ≡ true
unfolding within
in_sized n [] h = h
in_sized n (p ∷ ps) h =
    choose (λ l. each part_sized l ≡ true) (ltb p.frame n) (p ∷ within n ps) []
    (λ e. each_cons part_sized p _ (each_head part_sized p ps h) (in_sized n ps (each_tail part_sized p ps h))) (λ e. each_none part_sized)

pub limited_sized : (limit : ℕ) (x : Scan) → scan_sized x ≡ true → scan_sized (limited_scan limit x) ≡ true
unfolding scan_sized
limited_sized limit x h =
    let a = all→ _ h in
    →all _
    (a.0, (a.1.0, (fit_sized (min x.budget limit) x.frames a.1.1.0, (in_sized (length (fitting (min x.budget limit) x.frames)) x.parts a.1.1.1.0, tt))))
