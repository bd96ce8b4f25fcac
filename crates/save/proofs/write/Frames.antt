-- The frames of a file, written one after another. Assumes nothing.
use mathlib.Core.Path.{◌≡◌, refl, sym, ap, ◌∙◌}
use mathlib.Core.List.{List, [], ◌∷◌, ◌++◌, append-nil}
use Prim.Native.Nat.{ℕ, ◌+◌, ◌-◌, ◌*◌, ◌≤◌, ◌<◌}
use native.Mathlib.Omega.{arith}
use lib.ListN.{length, take, drop, get_or, length-drop, drop_of_length-le}
use lib.Seq.{sets, length-sets, length-take-le, drop-drop}
use Rattle.field.specs.Number.{encode}
use Rattle.field.specs.Records.{bytes_of, Bytes, record_at}
use Rattle.field.proofs.Bytes.{bytes_part, sets_more}
use Rattle.field.proofs.Fields.{of_fields}
use Rattle.field.proofs.Format.{Layout}
use Rattle.field.proofs.Records.{records_length}
use Rattle.field.specs.Fields.{FieldsFit}
use Rattle.rules.specs.Values.{used}
use Rattle.rules.specs.File.{encode_frame, encode_frame_header}
use Rattle.tables.specs.declared.FrameHeader.{FrameHeader}
use Rattle.tables.specs.Tables.{decode_header, headers_in, frame_of, frames_of, frames_in}
use Rattle.tables.proofs.Walk.{records_turn}
use Rattle.tables.proofs.Frames.{stretch_length, stretch_within, frames_length, frames_used, weight, weight_on}
use Rattle.laws.proofs.Length.{length_frames}
use Rattle.fnv.specs.Fnv.{fnv_from, prime64}
use Rattle.fnv.proofs.Hash.{joined}
use Rattle.save.specs.Output.{Put, Filled, Summed, up_to}
use Rattle.save.proofs.output.Stretches.{put_both, put_copy, put_over}
use Rattle.save.proofs.output.Sums.{sum_both}

pub frames_in_size : (f : ℕ) (headers store : List ℕ) → length (bytes_of encode_frame (frames_in f headers store)) ≡ f * 8 + used (frames_in f headers store)
frames_in_size f headers store =
    length_frames (frames_in f headers store) ∙ rw (frames_length (headers_in f headers) store, records_length 8 decode_header f headers) (omega arith)

-- ---- one frame
header_layout : Layout 8 decode_header (λ h. encode 4 h.start ++ encode 4 h.len) (λ h. FieldsFit (4 ∷ 4 ∷ []) (h.start ∷ h.len ∷ []))
unfolding decode_header
header_layout =
    of_fields (4 ∷ 4 ∷ []) (λ h. h.start ∷ h.len ∷ []) (λ v. record { start = get_or v 0 0; len = get_or v 1 0 }) (λ b. refl) (λ h. simp append-nil) (λ h. refl)

module _ (headers store : List ℕ) (k from : ℕ) (b : Bytes headers) (h : k * 8 + 8 ≤ length headers) where
  frame_is : from + (record_at 8 decode_header headers k).len ≤ length store
      → encode_frame (frame_of (record_at 8 decode_header headers k) (drop from store))
      ≡ take 8 (drop (k * 8) headers) ++ take (record_at 8 decode_header headers k).len (drop from store)
  unfolding encode_frame encode_frame_header
  frame_is l =
      let n = (record_at 8 decode_header headers k).len in
      let g : n ≤ length (drop from store) = simp length-drop (omega arith) in
      let m : length (take 8 (drop (k * 8) headers)) ≡ 8 = length-take-le 8 (drop (k * 8) headers) (simp length-drop (omega arith)) in
      rw (stretch_length n (drop from store), stretch_within n (drop from store) g, header_layout.forth (take 8 (drop (k * 8) headers)) m (bytes_part headers (k * 8) 8 b))

  -- its header, and then its bytes
  pub framed : {x y : List ℕ} (o : List ℕ) (at len : ℕ) → len ≡ (record_at 8 decode_header headers k).len → from + len ≤ length store → at + 8 + len ≤ length o → length x ≡ length o
      → x ≡ take at o ++ (take 8 (drop (k * 8) headers) ++ drop (at + 8) o)
      → y ≡ take (at + 8) x ++ (take len (drop from store) ++ drop (at + 8 + len) x)
      → Put (encode_frame (frame_of (record_at 8 decode_header headers k) (drop from store))) (8 + len) o at (at + 8 + len) y
  framed {x} o at len e l r s p q =
      let g : from + (record_at 8 decode_header headers k).len ≤ length store = rw (← e) l in
      rw (frame_is g, ← e) (put_both {s = take 8 (drop (k * 8) headers)} {r = take len (drop from store)} (put_copy _ 8 o at (length-take-le 8 (drop (k * 8) headers) (simp length-drop (omega arith))) (omega arith) p)
      (put_copy _ len x (at + 8) (length-take-le len (drop from store) (simp length-drop (omega arith))) (omega arith) q))

  -- the hash of its header, and then of its bytes
  pub frame_hash : (u v r len : ℕ) → len ≡ (record_at 8 decode_header headers k).len → from + len ≤ length store
      → v ≡ fnv_from 64 prime64 u (take 8 (drop (k * 8) headers)) → r ≡ fnv_from 64 prime64 v (take len (drop from store))
      → r ≡ fnv_from 64 prime64 u (encode_frame (frame_of (record_at 8 decode_header headers k) (drop from store)))
  frame_hash u v r len e l f g =
      let h' : from + (record_at 8 decode_header headers k).len ≤ length store = rw (← e) l in
      rw (frame_is h', ← e) (sum_both u (take 8 (drop (k * 8) headers)) (take len (drop from store)) f g)

-- ---- the loop
-- the bytes of the frames from number k on, whose own bytes lie in the store from `from` on
abbrev left : ℕ → List ℕ → List ℕ → ℕ → ℕ → List ℕ
left f headers store k from = bytes_of encode_frame (frames_of (drop k (headers_in f headers)) (drop from store))

-- k frames of old are written up to at, with the hash x; what is left of them gives the whole, and its hash from u
pub record Framing (f : ℕ) (headers store old : List ℕ) (u k at from x : ℕ) (new : List ℕ) : Type 0 where
  pub within : k ≤ f
  pub room : at + ((f - k) * 8 + weight (drop k (headers_in f headers))) ≤ length new
  pub held : from + weight (drop k (headers_in f headers)) ≤ length store
  pub bytes : sets new at (left f headers store k from) ≡ sets old 0 (bytes_of encode_frame (frames_in f headers store))
  pub same : length new ≡ length old
  pub hashed : fnv_from 64 prime64 x (left f headers store k from) ≡ fnv_from 64 prime64 u (bytes_of encode_frame (frames_in f headers store))

module _ (f : ℕ) (headers store old : List ℕ) (u : ℕ) where
  pub frames_start : used (frames_in f headers store) ≤ length store → f * 8 + used (frames_in f headers store) ≤ length old
      → Framing f headers store old u 0 0 0 u old
  frames_start h g =
      let e = frames_used (headers_in f headers) [] store in
      record { within = omega arith; room = omega arith; held = omega arith; bytes = refl; same = refl; hashed = refl }

  module _ {k at from x : ℕ} {new : List ℕ} (i : Framing f headers store old u k at from x new) where
    -- what a turn may use
    pub frame_room : k < f → (at + 8 + (record_at 8 decode_header headers k).len ≤ length new) × (from + (record_at 8 decode_header headers k).len ≤ length store)
    frame_room h =
        let w = weight_on f headers k 0 h refl refl in
        omega (arith, i.room, i.held)

    left_turn : k < f → left f headers store k from
        ≡ encode_frame (frame_of (record_at 8 decode_header headers k) (drop from store)) ++ left f headers store (k + 1) (from + (record_at 8 decode_header headers k).len)
    unfolding frames_of bytes_of
    left_turn h = rw (records_turn 8 decode_header f headers k h, drop-drop)

    pub frames_on : {len n y : ℕ} {new' : List ℕ} → k < f → len ≡ (record_at 8 decode_header headers k).len
        → Summed (encode_frame (frame_of (record_at 8 decode_header headers k) (drop from store))) (8 + len) new (up_to at x) (up_to n y) new'
        → Framing f headers store old u (k + 1) (at + (8 + len)) (from + len) y new'
    frames_on {len} {n} {y} {new'} h e d =
        let p = d.put in
        let w = weight_on f headers k 0 h refl refl in
        let s : length new' ≡ length new = ap length p.bytes ∙ simp length-sets in
        let z = encode_frame (frame_of (record_at 8 decode_header headers k) (drop from store)) in
        let r = left f headers store (k + 1) (from + (record_at 8 decode_header headers k).len) in
        let b : sets (sets new at z) (at + length z) r ≡ sets new at (left f headers store k from) = sets_more z r new at ∙ ap (sets new at) (sym (left_turn h)) in
        record {
          within = omega arith;
          room = omega (arith, i.room);
          held = omega (arith, i.held);
          bytes = rw (p.bytes, ← p.size, e) (b ∙ i.bytes);
          same = s ∙ i.same;
          hashed = rw e (ap (λ (v : ℕ). fnv_from 64 prime64 v r) d.sum ∙ sym (joined 64 prime64 x z r) ∙ ap (fnv_from 64 prime64 x) (sym (left_turn h)) ∙ i.hashed);
        }

    pub frames_end : f ≤ k → f * 8 + used (frames_in f headers store) ≤ length old → Filled (bytes_of encode_frame (frames_in f headers store)) old u x new
    unfolding frames_of bytes_of fnv_from
    frames_end h g =
        let l : length (headers_in f headers) ≤ k = rw records_length h in
        let z = frames_in_size f headers store in
        let n = drop_of_length-le (headers_in f headers) l in
        let e : new ≡ sets old 0 (bytes_of encode_frame (frames_in f headers store)) = sym (ap (λ (hs : List FrameHeader). sets new at (bytes_of encode_frame (frames_of hs (drop from store)))) n) ∙ i.bytes in
        record {
          bytes = put_over {s = bytes_of encode_frame (frames_in f headers store)} {o = old} (record { size = z; ends = refl; bytes = e }) g;
          sum = sym (ap (λ (hs : List FrameHeader). fnv_from 64 prime64 x (bytes_of encode_frame (frames_of hs (drop from store)))) n) ∙ i.hashed;
        }
