-- Lent tables: their list's numbers fit their types, and the list put back changes nothing. Assumes nothing.
use mathlib.Core.Path.{◌≡◌, refl, ap, ◌∙◌}
use mathlib.Core.Bool.{true}
use mathlib.Core.List.{List, [], ◌∷◌, ◌++◌}
use Prim.Native.Nat.{ℕ, zero, suc, ◌+◌, ◌*◌, ◌≤◌}
use native.Mathlib.Nat.{suc-mul, add_comm}
use native.Mathlib.Omega.{arith}
use borrow.Author.Tests.{leb-true, le-leb, lt-ltb, ltb-true, ltb-false}
use lib.Dec.{leb, ltb}
use lib.Signed.{mag}
use lib.ListN.{length, take, drop, replicate, length-drop, length-replicate, get_or-replicate, get_or-eq_default, take-append-drop}
use lib.Seq.{length-take-le, take-add, drop-nil}
use Rattle.field.specs.Number.{number_at}
use Rattle.field.specs.Records.{records, bytes_of, Bytes}
use Rattle.field.proofs.Bytes.{bytes_take, bytes_drop, bytes_append}
use Rattle.field.proofs.Number.{number_below}
use Rattle.field.proofs.Format.{Layout, bytes_records, records_fit}
use Rattle.rules.specs.declared.AreaIndex.{AreaIndex}
use Rattle.rules.specs.Tests.{each}
use Rattle.rules.specs.Values.{max64, used}
use Rattle.rules.specs.Questions.{question1, question2, question4}
use Rattle.rules.specs.Sizes.{frame_sized, sized}
use Rattle.rules.specs.File.{encode_frame_header, encode_held, decode_held, over}
use Rattle.rules.proofs.Tests.{test, and_left, and_right, each_of, each→, each_cons, each_none, each_map}
use Rattle.laws.specs.Statements.{Savable}
use Rattle.laws.proofs.Layouts.{checkpoint_layout, lsn_layout, confirmation_layout, signed_forth, held_forth}
use Rattle.laws.proofs.Facts.{→sized}
use Rattle.tables.specs.declared.FrameHeader.{FrameHeader}
use Rattle.tables.specs.Tables.{stretch, frames_of, frames_in, headers_in, parts_in}
use Rattle.tables.proofs.Kept.{kept_layout}
use Rattle.tables.proofs.Frames.{stretch_length, stretch_within, frames_used, weight}
use Rattle.tables.specs.Index.{Tables, index_in, kinds_ok, store_of, tables_from}
use Rattle.index.specs.Steps.{Passes, held_question4}
use Rattle.tables.specs.Lent.{Typed, TableBytes}
use Rattle.index.proofs.Questions.{passes_long, passes_hints, passes_store, passes_kinds}
use Rattle.index.proofs.Back.{encode_header, header_layout}

-- ---- numbers that are read fit their types
-- a stretch of a store
bytes_zeros : (n : ℕ) → Bytes (replicate n 0)
bytes_zeros n i =
    test (ltb i n) (λ e. rw (get_or-replicate {A = ℕ} n i 0 0 (ltb-true i n e)) (omega arith))
    (λ e. let l : length (replicate {A = ℕ} n 0) ≤ i = rw (length-replicate {A = ℕ} n 0) (ltb-false i n e) in rw (get_or-eq_default (replicate {A = ℕ} n 0) 0 l) (omega arith))

bytes_stretch : (n : ℕ) (store : List ℕ) → Bytes store → Bytes (stretch n store)
unfolding stretch
bytes_stretch n store b = bytes_take (store ++ replicate n 0) n (bytes_append store (replicate n 0) b (bytes_zeros n))

frames_sized : (hs : List FrameHeader) (store : List ℕ) → Bytes store → each frame_sized (frames_of hs store) ≡ true
unfolding frames_of frame_sized
frames_sized [] store b = each_none frame_sized
frames_sized (h ∷ hs) store b =
    each_cons frame_sized _ _ (each_of (λ v. ltb v 256) 0 (stretch h.len store) (λ i l. lt-ltb _ 256 (bytes_stretch h.len store b i)))
    (frames_sized hs (drop h.len store) (bytes_drop store h.len b))

parts_sized : (n : ℕ) (t : List ℕ) → Bytes t → each (λ p. ltb (mag p.remaining) 2147483648) (parts_in n t) ≡ true
unfolding records decode_held
parts_sized zero t b = each_none _
parts_sized (suc n) t b =
    let f = number_below 4 (take 24 t) 16 (bytes_take t 24 b) in
    each_cons _ _ _ (lt-ltb _ 2147483648 (signed_forth (number_at 4 (take 24 t) 16) (omega arith)).1) (parts_sized n (drop 24 t) (bytes_drop t 24 b))

pub sized_in : (x : AreaIndex) (t : Tables) → Typed x → TableBytes t → sized (index_in x t) ≡ true
sized_in x t y b =
    →sized (index_in x t) (record {
      key = record { start = y.start; end = y.end; channels = y.channels; sectors = y.sectors };
      checkpoints = each_map (λ c q. le-leb c.digest max64 (omega arith)) (records_fit checkpoint_layout x.checkpoints t.checkpoints b.checkpoints);
      frames = each→ frame_sized _ (frames_sized (headers_in x.frames t.frames) t.store b.store);
      parts = each→ _ _ (parts_sized x.parts t.parts b.parts);
      spacing = y.spacing;
      confirmed = each_map (λ c q. le-leb c.digest max64 (omega arith)) (records_fit confirmation_layout x.confirmed t.confirmed b.confirmed);
      known = y.fingerprint;
    })

-- ---- read and put back
pub over_same : (k : ℕ) (new old : List ℕ) → k ≤ length old → new ≡ take k old → over new old ≡ old
over_same k new old h e = rw (e, length-take-le k old h) (take-append-drop k old)

module _ {A : Type 0} {w : ℕ} {d : List ℕ → A} {e : A → List ℕ} {Fits : A → Type 0} (l : Layout w d e Fits) where
  records_put_back : (n : ℕ) (t : List ℕ) → Bytes t → n * w ≤ length t → over (bytes_of e (records w d n t)) t ≡ t
  records_put_back n t b h = over_same (n * w) _ t h (bytes_records l n t b h)

-- parts whose kinds are 0 or 1
pub parts_bytes : (n : ℕ) (t : List ℕ) → Bytes t → n * 24 ≤ length t → kinds_ok n t ≡ true → bytes_of encode_held (parts_in n t) ≡ take (n * 24) t
unfolding records bytes_of kinds_ok each
parts_bytes zero t b h k = refl
parts_bytes (suc n) t b h k =
    let h' : n * 24 + 24 ≤ length t = rw suc-mul at h in
    let h1 : 24 ≤ length t = omega arith in
    let h2 : n * 24 ≤ length (drop 24 t) = simp length-drop (omega arith) in
    let first = leb (number_at 4 (take 24 t) 20) 1 in
    let rest = each (λ b. leb (number_at 4 b 20) 1) (records 24 (λ b. b) n (drop 24 t)) in
    rw (held_forth (take 24 t) (bytes_take t 24 b) (length-take-le 24 t h1) (leb-true (number_at 4 (take 24 t) 20) 1 (and_left first rest k)), parts_bytes n (drop 24 t) (bytes_drop t 24 b) h2 (and_right first rest k), suc-mul, add_comm (n * 24) 24, take-add)

-- frames: their headers, and their bytes where the store has them all
pub headers_of : (hs : List FrameHeader) (store : List ℕ) → bytes_of encode_frame_header (frames_of hs store) ≡ bytes_of encode_header hs
unfolding bytes_of frames_of encode_frame_header
headers_of [] store = refl
headers_of (h ∷ hs) store = rw (stretch_length h.len store, headers_of hs (drop h.len store))

weight_more : (h : FrameHeader) (hs : List FrameHeader) → weight (h ∷ hs) ≡ h.len + weight hs
unfolding frames_of used
weight_more h hs = rw (drop-nil, stretch_length)

pub store_back : (hs : List FrameHeader) (store : List ℕ) → weight hs ≤ length store → store_of (frames_of hs store) ≡ take (weight hs) store
unfolding store_of bytes_of frames_of used
store_back [] store h = refl
store_back (g ∷ hs) store h =
    let w = weight_more g hs in
    let l : g.len ≤ length store = omega arith in
    let r : weight hs ≤ length (drop g.len store) = simp length-drop (omega arith) in
    rw (stretch_within g.len store l, w, take-add g.len (weight hs) store) (ap (λ (b : List ℕ). take g.len store ++ b) (store_back hs (drop g.len store) r))

-- ---- an index that passes 1 to 4
module _ {x : AreaIndex} {t : Tables} (p : Passes x t) where
  pub passes_savable : Typed x → TableBytes t → Savable (index_in x t)
  unfolding question1 question2 held_question4
  passes_savable y b =
      record {
        one = p.roomy.area;
        two = p.roomy.numbers;
        four = and_left (question4 (index_in x t)) _ p.held;
        sizes = sized_in x t y b;
      }

  store_weight : weight (headers_in x.frames t.frames) ≤ length t.store
  store_weight = rw (frames_used (headers_in x.frames t.frames) [] t.store) (passes_store p)

  -- the frames' bytes stand at the start of the store
  pub store_is : store_of (frames_in x.frames t.frames t.store) ++ drop (used (frames_in x.frames t.frames t.store)) t.store ≡ t.store
  store_is =
      rw (store_back (headers_in x.frames t.frames) t.store store_weight, frames_used (headers_in x.frames t.frames) t.store [])
      (take-append-drop (weight (headers_in x.frames t.frames)) t.store)

  -- what stands in the tables, put into them, changes nothing
  pub put_back : TableBytes t → tables_from (index_in x t) t ≡ t
  put_back b =
      let l = passes_long p in
      let h = passes_hints p in
      rw (
        records_put_back checkpoint_layout x.checkpoints t.checkpoints b.checkpoints l.checkpoints,
        over_same (x.frames * 8) _ t.frames l.frames (headers_of (headers_in x.frames t.frames) t.store ∙ bytes_records header_layout x.frames t.frames b.frames l.frames),
        over_same (weight (headers_in x.frames t.frames)) _ t.store store_weight (store_back (headers_in x.frames t.frames) t.store store_weight),
        over_same (x.parts * 24) _ t.parts l.parts (parts_bytes x.parts t.parts b.parts l.parts (passes_kinds p)),
        records_put_back lsn_layout x.malformed t.malformed b.malformed l.malformed,
        records_put_back kept_layout x.hints t.hints b.hints h.hints,
        records_put_back confirmation_layout x.confirmed t.confirmed b.confirmed h.confirmed,
      )
