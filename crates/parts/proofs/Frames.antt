-- The frames of a table: the last one, and the bytes that headers and store have. Assumes nothing.
use mathlib.Core.Path.{◌≡◌, refl, ap, ◌∙◌}
use mathlib.Core.List.{List, [], ◌∷◌, ◌++◌}
use Prim.Native.Nat.{ℕ, ◌+◌, ◌-◌, ◌≤◌}
use native.Mathlib.Omega.{arith}
use lib.ListN.{length, take, drop, length-drop}
use lib.Seq.{drop-drop}
use Rattle.field.proofs.Records.{records_length, records_at, records_more}
use Rattle.rules.specs.Tests.{last_or}
use Rattle.rules.specs.Values.{Frame, no_frame, used}
use Rattle.rules.proofs.Walk.{last_or_snoc}
use Rattle.laws.proofs.scans.Parts.{used_snoc}
use Rattle.tables.specs.declared.FrameHeader.{FrameHeader}
use Rattle.tables.specs.Tables.{decode_header, headers_in, header_at, frame_of, frames_of, frames_in}
use Rattle.tables.proofs.Frames.{stretch_length, stretch_within, frames_length, frame_start, frame_length}

-- a frame behind others
frames_snoc : (hs : List FrameHeader) (h : FrameHeader) (store : List ℕ)
    → frames_of (hs ++ (h ∷ [])) store ≡ frames_of hs store ++ (frame_of h (drop (used (frames_of hs store)) store) ∷ [])
unfolding frames_of used
frames_snoc [] h store = refl
frames_snoc (g ∷ hs) h store =
    rw (frames_snoc hs h (drop g.len store), stretch_length g.len store, drop-drop)

-- the header of the last frame
abbrev pub last_header : ℕ → List ℕ → FrameHeader
last_header f headers = header_at (headers_in f headers) (f - 1)

module _ (f : ℕ) (headers store : List ℕ) where
  pub count : length (frames_in f headers store) ≡ f
  count = frames_length (headers_in f headers) store ∙ records_length 8 decode_header f headers

  pub last_start : (last_or no_frame (frames_in f headers store)).start ≡ (last_header f headers).start
  unfolding last_or
  last_start = rw count (frame_start (headers_in f headers) store (f - 1))

  pub last_length : length (last_or no_frame (frames_in f headers store)).bytes ≡ (last_header f headers).len
  unfolding last_or
  last_length = rw count (frame_length (headers_in f headers) store (f - 1))

  module _ (some : 1 ≤ f) where
    -- all but the last, and the last
    pub frames_last : frames_in f headers store
        ≡ frames_in (f - 1) headers store ++ (frame_of (last_header f headers)
        (drop (used (frames_in (f - 1) headers store)) store) ∷ [])
    frames_last =
        let q : f ≡ f - 1 + 1 = omega arith in
        let e : headers_in f headers ≡ headers_in (f - 1) headers ++ (last_header f headers ∷ []) =
        ap (λ (n : ℕ). headers_in n headers) q ∙ records_more 8 decode_header (f - 1) headers
        ∙ rw (records_at 8 decode_header f headers (f - 1) (record { start = 0; len = 0 }) (omega arith)) in
        ap (λ (hs : List FrameHeader). frames_of hs store) e
        ∙ frames_snoc (headers_in (f - 1) headers) (last_header f headers) store

    pub last_used : used (frames_in f headers store) ≡ used (frames_in (f - 1) headers store) + (last_header f headers).len
    last_used =
        ap used frames_last ∙ used_snoc (frames_in (f - 1) headers store) _
        ∙ rw (stretch_length (last_header f headers).len)

    -- its bytes end where the store is used up
    pub last_bytes : (u : ℕ) → u ≡ used (frames_in f headers store) → u ≤ length store
        → (last_or no_frame (frames_in f headers store)).bytes
        ≡ take (last_header f headers).len (drop (u - (last_header f headers).len) store)
    last_bytes u e l =
        let n = (last_header f headers).len in
        let w = used (frames_in (f - 1) headers store) in
        let k = last_used in
        let q : w ≡ u - n = omega arith in
        ap (λ (fs : List Frame). (last_or no_frame fs).bytes) frames_last
        ∙ ap (λ (g : Frame). g.bytes) (last_or_snoc no_frame (frames_in (f - 1) headers store) _)
        ∙ stretch_within n (drop w store) (simp length-drop (omega arith)) ∙ rw q
