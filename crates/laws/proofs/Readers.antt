-- The readers of frames and parts. Assumes nothing.
use Rattle.std.specs.Prelude.{Option}
use mathlib.Core.Path.{◌≡◌, refl, sym, ap, subst, ◌∙◌}
use mathlib.Core.Bool.{Bool, true}
use mathlib.Core.List.{List, [], ◌∷◌, ◌++◌, append_assoc, append-nil}
use Prim.Native.Nat.{ℕ, zero, suc, ◌+◌, ◌≤◌}
use native.Mathlib.Omega.{arith}
use borrow.Author.Tests.{leb-true, le-leb, ltb-true, lt-ltb}
use lib.Dec.{leb, ltb}
use lib.ListN.{length, take, drop, get_or, length-append, length-drop, take-append-drop}
use lib.Seq.{drop_at, take-append_seam, drop-append_seam, length-take-le}
use Rattle.field.specs.Number.{encode, number_at}
use Rattle.field.specs.Records.{Bytes}
use Rattle.field.specs.Fields.{fields_at, field_bytes, FieldsFit}
use Rattle.field.proofs.Bytes.{bytes_take, bytes_part, bytes_append}
use Rattle.field.proofs.Number.{encode_length, encode_bytes, number_take, number_below}
use Rattle.field.proofs.Fields.{field_bytes_length}
use Rattle.rules.specs.declared.Area.{Area}
use Rattle.rules.specs.declared.Checkpoint.{Checkpoint}
use Rattle.rules.specs.declared.Held.{Held}
use Rattle.rules.specs.Tests.{each, ask, Accepted}
use Rattle.rules.specs.Values.{Frame}
use Rattle.rules.specs.Sections.{Filled, frame_ok, part_ok}
use Rattle.rules.specs.Sizes.{frame_sized}
use Rattle.rules.specs.File.{encode_frame_header, encode_frame, encode_held, decode_held}
use Rattle.rules.specs.Load.{Read, read, read_frame, read_part}
use Rattle.rules.proofs.Tests.{each_none, each_cons, each_head, each_tail, asked→, →asked, accepted_eq}
use Rattle.laws.proofs.Reading.{Item, Reader}
use Rattle.laws.proofs.Numbers.{fields_back, fields_forth}
use Rattle.laws.proofs.Layouts.{HeldFits, held_length, held_back, held_kind, held_forth, held_fit}

-- ---- bytes as a test
pub bytes_each : (t : List ℕ) → Bytes t → each (λ b. ltb b 256) t ≡ true
bytes_each [] h = each_none (λ b. ltb b 256)
bytes_each (x ∷ t) h = each_cons (λ b. ltb b 256) x t (lt-ltb x 256 (h 0)) (bytes_each t (λ i. h (suc i)))

pub each_bytes : (t : List ℕ) → each (λ b. ltb b 256) t ≡ true → Bytes t
each_bytes [] h i = omega arith
each_bytes (x ∷ t) h zero = ltb-true x 256 (each_head (λ b. ltb b 256) x t h)
each_bytes (x ∷ t) h (suc i) = each_bytes t (each_tail (λ b. ltb b 256) x t h) i

-- ---- frames
pub record FrameFits (f : Frame) : Type 0 where
  pub numbers : FieldsFit (4 ∷ 4 ∷ []) (f.start ∷ length f.bytes ∷ [])
  pub bytes : frame_sized f ≡ true

frame_writes : (f : Frame) (r : List ℕ) → encode_frame f ++ r ≡ field_bytes (4 ∷ 4 ∷ []) (f.start ∷ length f.bytes ∷ []) ++ (f.bytes ++ r)
unfolding encode_frame encode_frame_header
frame_writes f r = simp (append_assoc, append-nil)

pub frame_length : (f : Frame) → length (encode_frame f) ≡ 8 + length f.bytes
unfolding encode_frame encode_frame_header
frame_length f = simp (length-append, encode_length)

pub frame_bytes : (f : Frame) → frame_sized f ≡ true → Bytes (encode_frame f)
unfolding encode_frame encode_frame_header frame_sized
frame_bytes f h =
    bytes_append (encode 4 f.start ++ encode 4 (length f.bytes)) f.bytes
    (bytes_append (encode 4 f.start) (encode 4 (length f.bytes)) (encode_bytes 4 f.start) (encode_bytes 4 (length f.bytes))) (each_bytes f.bytes h)

module _ (a : Area) (budget : ℕ) where
  abbrev pub held_frame_ok : Filled → Frame → Bool
  held_frame_ok s f = frame_ok a budget s f.start (length f.bytes)

  frame_back : (s : Filled) (f : Frame) (r : List ℕ) → FrameFits f → held_frame_ok s f ≡ true → read_frame a budget s (encode_frame f ++ r) ≡ read f r
  unfolding read_frame
  frame_back s f r g h =
      let vs = f.start ∷ length f.bytes ∷ [] in
      let b = encode_frame f ++ r in
      let v : fields_at (4 ∷ 4 ∷ []) b 0 ≡ vs = rw frame_writes (fields_back (4 ∷ 4 ∷ []) vs (f.bytes ++ r) g.numbers) in
      let n0 : number_at 4 b 0 ≡ f.start = ap (λ (y : List ℕ). get_or y 0 0) v in
      let n4 : number_at 4 b 4 ≡ length f.bytes = ap (λ (y : List ℕ). get_or y 1 0) v in
      let d : drop 8 b ≡ f.bytes ++ r = rw frame_writes (drop_at (field_bytes (4 ∷ 4 ∷ []) vs) (f.bytes ++ r) 8 (field_bytes_length (4 ∷ 4 ∷ []) vs)) in
      let l : length b ≡ 8 + length f.bytes + length r = length-append (encode_frame f) r ∙ rw frame_length in
      →asked _ (le-leb 8 (length b) (omega arith), (rw (n0, n4) h, (le-leb (8 + number_at 4 b 4) (length b) (omega arith), tt)))
      (rw (n0, n4, d, take-append_seam, drop-append_seam))

  frame_item : (s : Filled) (b : List ℕ) (n : ℕ) → 8 + n ≤ length b → length (take n (drop 8 b)) ≡ n → number_at 4 b 4 ≡ n → Bytes b
      → frame_ok a budget s (number_at 4 b 0) n ≡ true
      → Item encode_frame held_frame_ok FrameFits s b (record { value = record { start = number_at 4 b 0; bytes = take n (drop 8 b) }; rest = drop n (drop 8 b) })
  unfolding frame_sized
  frame_item s b n l m e h k = record {
    bytes =
        sym (fields_forth (4 ∷ 4 ∷ []) b h (omega arith))
        ∙ rw (e, frame_writes, m, take-append-drop);
    holds = rw m k;
    fits = record {
      numbers = (number_below 4 b 0 h, (rw (m, ← e) (number_below 4 b 4 h), tt));
      bytes = bytes_each (take n (drop 8 b)) (bytes_part b 8 n h);
    };
  }

  frame_forth : (s : Filled) (b : List ℕ) (t : Read Frame) → Bytes b → read_frame a budget s b ≡ Accepted t → Item encode_frame held_frame_ok FrameFits s b t
  unfolding read_frame
  frame_forth s b t h q =
      let n = number_at 4 b 4 in
      let g = asked→ (ask (leb 8 (length b)) 20 ∷ ask (frame_ok a budget s (number_at 4 b 0) n) 32 ∷ ask (leb (8 + n) (length b)) 20 ∷ [])
      (read (record { start = number_at 4 b 0; bytes = take n (drop 8 b) }) (drop n (drop 8 b))) t refl q in
      let l : 8 + n ≤ length b = leb-true (8 + n) (length b) g.0.1.1.0 in
      let m : length (take n (drop 8 b)) ≡ n = length-take-le n (drop 8 b) (simp length-drop (omega arith)) in
      subst (Item encode_frame held_frame_ok FrameFits s b) (accepted_eq _ _ g.1) (frame_item s b n l m refl h g.0.1.0)

  pub frame_reader : Reader (read_frame a budget) encode_frame held_frame_ok FrameFits
  frame_reader = record { back = frame_back; forth = frame_forth }

-- ---- parts
module _ (a : Area) (k : ℕ) (cs : List Checkpoint) (fs : List Frame) where
  part_back : (o : Option Held) (p : Held) (r : List ℕ) → HeldFits p → part_ok a k 0 cs fs o p ≡ true → read_part a k cs fs o (encode_held p ++ r) ≡ read p r
  unfolding read_part
  part_back o p r f h =
      let v = held_back p f r in
      let l : 24 ≤ length (encode_held p ++ r) = rw (length-append, held_length) (omega arith) in
      →asked _ (le-leb 24 _ l, (le-leb _ 1 (held_kind p f r), (rw v h, tt)))
      (rw (v, drop_at (encode_held p) r 24 (held_length p)))

  part_forth : (o : Option Held) (b : List ℕ) (t : Read Held) → Bytes b → read_part a k cs fs o b ≡ Accepted t → Item encode_held (part_ok a k 0 cs fs) HeldFits o b t
  unfolding read_part
  part_forth o b t h q =
      let c = take 24 b in
      let g = asked→ (ask (leb 24 (length b)) 20 ∷ ask (leb (number_at 4 b 20) 1) 33 ∷ ask (part_ok a k 0 cs fs o (decode_held c)) 32 ∷ [])
      (read (decode_held c) (drop 24 b)) t refl q in
      let l : length c ≡ 24 = length-take-le 24 b (leb-true 24 (length b) g.0.0) in
      let n : number_at 4 c 20 ≤ 1 = rw (number_take 4 24 b 20 (omega arith)) (leb-true (number_at 4 b 20) 1 g.0.1.0) in
      subst (Item encode_held (part_ok a k 0 cs fs) HeldFits o b) (accepted_eq _ _ g.1) (record {
        bytes = sym (ap (λ (y : List ℕ). y ++ drop 24 b) (held_forth c (bytes_take b 24 h) l n) ∙ take-append-drop 24 b);
        holds = g.0.1.1.0;
        fits = held_fit c (bytes_take b 24 h) l n;
      })

  pub part_reader : Reader (read_part a k cs fs) encode_held (part_ok a k 0 cs fs) HeldFits
  part_reader = record { back = part_back; forth = part_forth }
