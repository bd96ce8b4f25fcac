-- A part that the rule stores, and the bytes that are written for it. Assumes nothing.
use mathlib.Core.Path.{◌≡◌, sym, ap, ◌∙◌}
use mathlib.Core.Bool.{Bool, true, false, ◌||◌}
use mathlib.Core.Logic.{⊎_elim}
use mathlib.Core.List.{List, [], ◌∷◌, ◌++◌, append_assoc}
use Prim.Native.Nat.{ℕ, ◌+◌, ◌-◌, ◌*◌, ◌<◌, ◌≤◌, min}
use native.Mathlib.Omega.{arith}
use borrow.Author.Tests.{eqb-true, leb-true, leb-false}
use lib.Dec.{eqb, leb, ltb}
use lib.ListN.{length, take, drop, set, length-append, length-drop, drop_of_length-le}
use lib.Seq.{length-take-le, sets, sets-eq}
use Rattle.field.specs.Number.{encode}
use Rattle.field.specs.Records.{bytes_of, Bytes}
use Rattle.field.proofs.Records.{records_length}
use Rattle.field.proofs.Format.{bytes_of_append, bytes_of_one, bytes_records}
use Rattle.rules.specs.Tests.{last_or}
use Rattle.rules.specs.Values.{Frame, max_frame, no_frame, used}
use Rattle.rules.specs.PartRule.{Stored, Piece, last_frame, part_of, opens, joins, grown, growth, stores, add_part}
use Rattle.rules.specs.File.{encode_frame_header, encode_held, decode_held, over}
use Rattle.rules.proofs.Tests.{test, never, all→, or_cases}
use Rattle.rules.proofs.Walk.{length_snoc, set_last, last_or_snoc}
use Rattle.laws.proofs.scans.Parts.{used_snoc}
use Rattle.laws.proofs.scans.PartRule.{longer, some_part}
use Rattle.laws.proofs.Layouts.{held_length}
use Rattle.tables.specs.declared.FrameHeader.{FrameHeader}
use Rattle.tables.specs.Tables.{frames_in, headers_in}
use Rattle.tables.proofs.Frames.{frames_used}
use Rattle.tables.specs.Index.{kinds_ok, store_of}
use Rattle.index.proofs.Back.{header_layout, header_length}
use Rattle.index.proofs.Lent.{over_same, parts_bytes, headers_of, store_back}
use Rattle.index.proofs.Store.{store_snoc}
use Rattle.parts.specs.declared.Counts.{Counts}
use Rattle.parts.specs.declared.Placed.{Placed}
use Rattle.parts.specs.Parts.{PartTables, stored_in, held, held_from, counts_of}
use Rattle.parts.specs.Steps.{CountsReady, Room, placed_in, Puts, put_in}
use Rattle.parts.proofs.Frames.{count, last_header, last_length, frames_last}
use Rattle.parts.proofs.Rule.{last_inside, opens_is}

-- ---- bytes over a table
-- and b behind what is there
pub over_more : (k : ℕ) (a b old : List ℕ) → k + length b ≤ length old → a ≡ take k old
    → over (a ++ b) old ≡ sets old k b
over_more k a b old h e =
    let n : length a ≡ k = ap length e ∙ length-take-le k old (omega arith) in
    rw (length-append, n, e) (sym (sets-eq b old k h))

-- one more record, behind those that are there
record_more : {A : Type 0} (e : A → List ℕ) (w : ℕ) (xs : List A) (x : A) (k : ℕ) (old : List ℕ) → length (e x) ≡ w
    → k + w ≤ length old → bytes_of e xs ≡ take k old
    → over (bytes_of e (xs ++ (x ∷ []))) old ≡ sets old k (e x)
record_more e w xs x k old l h b =
    rw (bytes_of_append e xs (x ∷ []), bytes_of_one e x) (over_more k (bytes_of e xs) (e x) old (omega arith) b)

-- ---- frames
pub headers_bytes : (f : ℕ) (t store : List ℕ) → Bytes t → f * 8 ≤ length t
    → bytes_of encode_frame_header (frames_in f t store) ≡ take (f * 8) t
headers_bytes f t store b h = headers_of (headers_in f t) store ∙ bytes_records header_layout f t b h

-- past the shorter length there is nothing
drop_min : {A : Type 0} (l : ℕ) (xs : List A) → drop (min l (length xs)) xs ≡ drop l xs
drop_min l xs =
    test (leb l (length xs)) (λ e. let h = leb-true l (length xs) e in let q : min l (length xs) ≡ l = omega arith in
    rw q)
    (λ e. let h = leb-false l (length xs) e in let q : min l (length xs) ≡ length xs = omega arith in
    rw (q, drop_of_length-le xs {i = length xs} (omega arith), drop_of_length-le xs {i = l} (omega arith)))

-- ---- tables that are ready
module _ {budget : ℕ} {c : Counts} {t : PartTables} (r : CountsReady budget c t) (k : kinds_ok c.parts t.parts ≡ true)
    (bf : Bytes t.frames) (bp : Bytes t.parts) where
  abbrev stored : Stored
  stored = stored_in c.frames c.parts t

  parts_count : length stored.parts ≡ c.parts
  parts_count = records_length 24 decode_held c.parts t.parts

  parts_there : bytes_of encode_held stored.parts ≡ take (c.parts * 24) t.parts
  parts_there = parts_bytes c.parts t.parts bp r.parts k

  headers_there : bytes_of encode_frame_header stored.frames ≡ take (c.frames * 8) t.frames
  headers_there = headers_bytes c.frames t.frames t.store bf r.frames

  store_there : store_of stored.frames ≡ take c.used t.store
  store_there =
      let b = r.bytes in let s = r.store in let f = r.fits in
      let e = frames_used (headers_in c.frames t.frames) [] t.store in
      store_back (headers_in c.frames t.frames) t.store (omega arith) ∙ rw (e, ← b)

  -- what stands in the tables is put back as it is
  pub stays : held c t ≡ held_from stored t
  stays =
      let s = r.store in let f = r.fits in
      let e : counts_of stored ≡ c = rw (count c.frames t.frames t.store, parts_count, ← r.bytes) in
      rw (
        e,
        over_same (c.frames * 8) _ t.frames r.frames headers_there,
        over_same c.used _ t.store (omega arith) store_there,
        over_same (c.parts * 24) _ t.parts r.parts parts_there,
      )

-- ---- and have space for one more
module _ {budget : ℕ} {c : Counts} {t : PartTables} (r : Room 1 budget c t) (bf : Bytes t.frames)
    (bp : Bytes t.parts) (p : Piece) where
  abbrev own : Stored
  own = stored_in c.frames c.parts t

  part_put : (i : ℕ) → over (bytes_of encode_held (own.parts ++ (part_of p i ∷ []))) t.parts
      ≡ sets t.parts (c.parts * 24) (encode_held (part_of p i))
  part_put i =
      let q = r.parts in
      record_more encode_held 24 own.parts (part_of p i) (c.parts * 24) t.parts (held_length (part_of p i))
      (omega arith) (parts_there r.ready r.kinds bf bp)

  -- more bytes behind those of the store
  bytes_put : (fs : List Frame) (more : List ℕ) → store_of fs ≡ store_of own.frames ++ more
      → c.used + length more ≤ budget → over (store_of fs) t.store ≡ sets t.store c.used more
  bytes_put fs more e l =
      let s = r.ready.store in
      rw e (over_more c.used (store_of own.frames) more t.store (omega arith)
      (store_there r.ready r.kinds bf bp))

  pub passed_over : stores budget own p ≡ false → held c t ≡ held_from (add_part budget own p) t
  unfolding add_part
  passed_over s = rw s (stays r.ready r.kinds bf bp)

  module _ (s : stores budget own p ≡ true) where
    pub stored_opened : (l : ℕ) → opens own p ≡ true
        → put_in c (placed_in c.frames true l (length p.bytes)) p t ≡ held_from (add_part budget own p) t
    unfolding add_part put_in placed_in stores growth encode_frame_header
    stored_opened l o =
        let w = leb-true (used own.frames + length p.bytes) budget (rw o at (all→ _ s).1.0) in
        let b = r.ready.bytes in
        let q = r.frames in
        let g : Frame = record { start = p.start; bytes = p.bytes } in
        rw (
          s,
          o,
          length_snoc own.frames g,
          length_snoc own.parts (part_of p (length own.frames)),
          used_snoc own.frames g,
          count c.frames t.frames t.store,
          parts_count r.ready r.kinds bf bp,
          ← b,
          record_more encode_frame_header 8 own.frames g (c.frames * 8) t.frames (header_length g) (omega arith)
              (headers_there r.ready r.kinds bf bp),
          bytes_put (own.frames ++ (g ∷ [])) p.bytes (store_snoc own.frames g) (omega arith),
          part_put c.frames,
        )

    pub stored_grown : opens own p ≡ false → put_in c
        (placed_in c.frames false (last_header c.frames t.frames).len (length p.bytes)) p t
        ≡ held_from (add_part budget own p) t
    unfolding add_part put_in placed_in stores growth joins encode_frame_header
    stored_grown o =
        let z = all→ _ s in
        let j = ⊎_elim (λ (x : opens own p ≡ true). never x o) (λ x. x)
        (or_cases (opens own p) (joins own p) z.1.1.0) in
        let some = r.ready.some (rw (parts_count r.ready r.kinds bf bp) at (some_part own p o)) in
        let n = length p.bytes in
        let l = (last_header c.frames t.frames).len in
        let ll : length (last_frame own).bytes ≡ l = last_length c.frames t.frames t.store in
        let more = drop (min l n) p.bytes in
        let init = frames_in (c.frames - 1) t.frames t.store in
        let g = longer (last_frame own) (drop (length (last_frame own).bytes) p.bytes) in
        let is-more : drop (length (last_frame own).bytes) p.bytes ≡ more = ap (λ (i : ℕ). drop i p.bytes) ll
        ∙ sym (drop_min l p.bytes) in
        let size : length (drop (length (last_frame own).bytes) p.bytes)
        ≡ n - l = length-drop (length (last_frame own).bytes) p.bytes ∙ rw ll in
        let w : used own.frames + (n - l) ≤ budget = rw ll
        at (leb-true (used own.frames + (n - length (last_frame own).bytes)) budget (rw o at z.1.0)) in
        let b = r.ready.bytes in
        let q = r.frames in
        let split = frames_last c.frames t.frames t.store some in
        let last : last_frame own ≡ _ = ap (last_or no_frame) split ∙ last_or_snoc no_frame init _ in
        let before : store_of own.frames ≡ store_of init ++ (last_frame own).bytes = ap store_of split ∙ store_snoc init _
        ∙ rw last in
        let total : used own.frames ≡ used init + length (last_frame own).bytes = ap used split ∙ used_snoc init _
        ∙ rw last in
        let fs : (grown own p).frames ≡ init ++ (g ∷ []) =
        ap (λ (x : List Frame). set x (length x - 1) g) split ∙ set_last init _ g in
        let e1 : length (grown own p).frames ≡ c.frames = ap length fs ∙ length_snoc init g
        ∙ rw (count (c.frames - 1) t.frames t.store) (omega arith) in
        let e2 : length (grown own p).parts ≡ c.parts + 1 = length_snoc own.parts _
        ∙ rw (parts_count r.ready r.kinds bf bp) in
        let e3 : used (grown own p).frames ≡ c.used + length more =
        ap used fs ∙ used_snoc init g ∙ rw (length-append, ← is-more) (omega (arith, b, total)) in
        let hd : encode_frame_header g ≡ encode 4 p.start
        ++ encode 4 (l + (n - l)) = rw (
          eqb-true (last_frame own).start p.start (all→ _ j).0,
          length-append,
          size,
          ll,
        ) in
        let e4 : over (bytes_of encode_frame_header (grown own p).frames) t.frames
        ≡ sets t.frames ((c.frames - 1) * 8) (encode 4 p.start ++ encode 4 (l + (n - l))) =
        ap (λ (x : List Frame). over (bytes_of encode_frame_header x) t.frames) fs
        ∙ record_more encode_frame_header 8 init g ((c.frames - 1) * 8) t.frames (header_length g) (omega arith)
        (headers_bytes (c.frames - 1) t.frames t.store bf (omega arith)) ∙ rw hd in
        let e5 : over (store_of (grown own p).frames) t.store ≡ sets t.store c.used more =
        bytes_put (grown own p).frames more (ap store_of fs ∙ store_snoc init g ∙ rw (is-more, before, append_assoc))
        (rw (← is-more, size) (omega (arith, b, w))) in
        let e6 = part_put (c.frames - 1) in
        rw (s, o, e1, e2, e3, e4, e5, count c.frames t.frames t.store, e6)

    -- as the code places it
    module _ {last : FrameHeader} (is : last ≡ last_header c.frames t.frames) {new : Bool}
        (New-is : new ≡ (eqb c.parts 0 || ltb last.start p.start)) where
      pub place_ready : (c.frames < 4294967295) × (length p.bytes ≤ max_frame) × (new ≡ false → 1 ≤ c.frames)
      unfolding stores
      place_ready = (
        omega (arith, r.few.0),
        leb-true (length p.bytes) max_frame (all→ _ s).0,
        λ o. r.ready.some (last_inside r.ready is p.start New-is o).0,
      )

      module _ {to : Placed} (to_is : to ≡ placed_in c.frames new last.len (length p.bytes)) where
        pub stored_put : put_in c to p t ≡ held_from (add_part budget own p) t
        stored_put =
            let n = opens_is r.ready is p New-is in
            rw (to_is, is)
            (test new (λ e. rw e (stored_opened _ (sym n ∙ e))) (λ e. rw e (stored_grown (sym n ∙ e))))

        pub puts_ready : Puts c to (length p.bytes) t
        unfolding placed_in stores growth
        puts_ready =
            let x = place_ready in
            let z = all→ _ s in
            let n = opens_is r.ready is p New-is in
            let few = r.few in
            let room = r.frames in let room' = r.parts in let b = r.ready.bytes in let st = r.ready.store in
            let short = x.1 in
            test new
            (λ e.
            let w = leb-true (used own.frames + length p.bytes) budget (rw (sym n ∙ e) at z.1.0) in
            rw (to_is, e)
            (record {
              from = omega arith;
              short = short;
              few = omega arith;
              frames = omega arith;
              store = omega arith;
              parts = omega arith;
            }))
            (λ e.
            let w = leb-true (used own.frames + (length p.bytes - length (last_frame own).bytes)) budget
            (rw (sym n ∙ e) at z.1.0) in
            let l = last_length c.frames t.frames t.store in
            let some = x.2 e in
            rw (to_is, e, is)
            (record {
              from = omega arith;
              short = short;
              few = omega arith;
              frames = omega arith;
              store = omega arith;
              parts = omega arith;
            }))
