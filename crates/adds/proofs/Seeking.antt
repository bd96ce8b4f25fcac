-- The pass over another list's parts for one that would be stored. Assumes nothing.
use mathlib.Core.Path.{◌≡◌, refl, sym, ◌∙◌}
use mathlib.Core.Bool.{Bool, true, false, ◌&&◌, ◌||◌, not}
use mathlib.Core.List.{List, [], ◌∷◌}
use Prim.Native.Nat.{ℕ, ◌+◌, ◌-◌, ◌*◌, ◌<◌, ◌≤◌}
use native.Mathlib.Omega.{arith}
use lib.Dec.{ltb}
use lib.IntN.{ℤ}
use lib.ListN.{length, take, drop, drop_of_length-le}
use borrow.Author.Tests.{lt-ltb, le-ltb}
use Rattle.field.specs.Records.{record_at}
use Rattle.field.proofs.Records.{records_length, records_at}
use Rattle.rules.specs.declared.Held.{Held}
use Rattle.rules.specs.Values.{Frame, frame_at, used}
use Rattle.rules.specs.File.{decode_held}
use Rattle.rules.specs.PartRule.{Stored, stores, piece}
use Rattle.tables.specs.declared.FrameHeader.{FrameHeader}
use Rattle.tables.specs.Tables.{decode_header, headers_in, frames_of, frames_in, parts_in}
use Rattle.tables.proofs.Frames.{frames_length, frame_start}
use Rattle.tables.proofs.Walk.{records_turn}
use Rattle.parts.specs.declared.Source.{Source}
use Rattle.parts.specs.Parts.{PartTables}
use Rattle.parts.specs.Steps.{InOrder, Lent, offset_to, held_piece}
use Rattle.parts.proofs.Adding.{bytes_inside, bytes_there}
use Rattle.adds.specs.Steps.{some_stored}

count : (f : ℕ) (headers store : List ℕ) → length (frames_in f headers store) ≡ f
count f headers store = frames_length (headers_in f headers) store ∙ records_length 8 decode_header f headers

-- ---- one part
pub passed_by : {m n : ℕ} (x : Bool) → m < n → false ≡ (not (ltb m n) && x)
passed_by {m} {n} x l = sym (rw (lt-ltb m n l))

module _ (budget n : ℕ) (h : Stored) (p : Held) (start from e : ℕ) (other : List ℕ) where
  pub stored_by : {r : Bool} {z : ℤ} → z ≡ p.remaining → e ≡ from + p.len → n ≤ p.at
      → r
      ≡ stores budget h (record {
        at = p.at;
        start = start;
        bytes = take (e - from) (drop from other);
        number = p.number;
        kind = p.kind;
        remaining = z;
      })
      → r ≡ (not (ltb p.at n) && stores budget h (held_piece p p.at start (take p.len (drop from other))))
  stored_by {r} {z} q s l g =
      let k : e - from ≡ p.len = omega arith in (rw (q, k) at g) ∙ sym (rw (le-ltb p.at n l))

-- ---- the loop
module _ (budget n f h : ℕ) (o : PartTables) (own : Stored) where
  abbrev others : List Frame
  others = frames_in f o.frames o.store

  abbrev parts : List Held
  parts = parts_in h o.parts

  -- j parts are looked at, and the answer is to be r
  pub record Seeking (r : Bool) (j : ℕ) (at : Source) : Type 0 where
    pub within : j ≤ h
    pub source : at.offset ≡ offset_to f o.frames at.frame
    pub near : at.offset ≤ length o.store
    pub order : InOrder at.frame others (drop j parts)
    pub rest : some_stored budget others n (drop j parts) own ≡ r

  -- part number j, whose frame lies at at, is asked for, and the answer is b
  pub record PartAsked (r : Bool) (j : ℕ) (at : Source) (b : Bool) : Type 0 where
    pub found : b ≡ true → true ≡ r
    pub on : b ≡ false → Seeking r (j + 1) at

  pub seek_start : Lent f h o → Seeking (some_stored budget others n parts own) 0 (record { frame = 0; offset = 0 })
  unfolding used frames_of
  seek_start l = record { within = omega arith; source = refl; near = omega arith; order = l.order; rest = refl }

  module _ (l : Lent f h o) {r : Bool} {j : ℕ} {at : Source} (k : Seeking r j at) where
    pub seek_end : h ≤ j → false ≡ r
    unfolding some_stored
    seek_end g =
        let e : drop j parts ≡ [] = drop_of_length-le parts {i = j} (rw records_length g) in
        rw e at k.rest

    module _ (i : j < h) {p : Held} (is : p ≡ record_at 24 decode_held o.parts j) where
      turn : drop j parts ≡ p ∷ drop (j + 1) parts
      turn = records_turn 24 decode_held h o.parts j i ∙ rw is

      in_order : InOrder at.frame others (p ∷ drop (j + 1) parts)
      in_order = rw turn at k.order

      pub source_ready : (at.offset ≡ offset_to f o.frames at.frame) × (at.frame ≤ p.frame)
          × (p.frame ≤ at.frame + 1) × (p.frame < f) × (f * 8 ≤ length o.frames)
          × (at.offset ≤ length o.store)
      source_ready =
          let q = in_order in
          (k.source, q.0, q.1, rw (count f o.frames o.store) at q.2, l.frames, k.near)

      module _ {at' : Source}
          (there : (at'.frame ≡ p.frame) × (at'.offset ≡ offset_to f o.frames p.frame)) where
        pub part_inside : at'.offset + p.len ≤ length o.store
        part_inside = let q = in_order in bytes_inside f o.frames o.store l.store p there.1 q.2 q.3

        module _ {g : FrameHeader} (header : g ≡ record_at 8 decode_header o.frames p.frame) where
          piece_is : held_piece p p.at g.start (take p.len (drop at'.offset o.store)) ≡ piece others p
          piece_is =
              let q = in_order in
              let u : p.frame < f = rw (count f o.frames o.store) at q.2 in
              let e : (frame_at others p.frame).start ≡ g.start =
              frame_start (headers_in f o.frames) o.store p.frame
              ∙ rw (records_at 8 decode_header f o.frames p.frame (record { start = 0; len = 0 }) u, header) in
              rw (e, bytes_there f o.frames o.store l.store p there.1 q.2 q.3)

          module _ {b : Bool}
              (asked : b ≡ (not (ltb p.at n) && stores budget own
              (held_piece p p.at g.start (take p.len (drop at'.offset o.store))))) where
            next : (b || some_stored budget others n (drop (j + 1) parts) own) ≡ r
            unfolding some_stored
            next = rw (asked, piece_is) (rw turn at k.rest)

            pub seek_turn : PartAsked r j at' b
            seek_turn =
                let m = part_inside in
                record {
                  found = λ e. rw e at next;
                  on = λ e. record {
                    within = omega arith;
                    source = rw there.0 there.1;
                    near = omega arith;
                    order = rw there.0 in_order.4;
                    rest = rw e at next;
                  };
                }
