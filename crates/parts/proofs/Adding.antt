-- The parts of another list, added one after another. Assumes nothing.
use mathlib.Core.Path.{◌≡◌, refl, sym, ap, ◌∙◌}
use mathlib.Core.Bool.{Bool, true, false, not}
use mathlib.Core.List.{List, [], ◌∷◌, ◌++◌}
use Prim.Native.Nat.{ℕ, zero, suc, ◌+◌, ◌-◌, ◌*◌, ◌<◌, ◌≤◌}
use native.Mathlib.Omega.{arith}
use borrow.Author.Tests.{le-leb}
use lib.Dec.{ltb}
use lib.IntN.{ℤ}
use lib.ListN.{length, take, drop, drop_of_length-le, take-append-drop}
use Rattle.field.specs.Number.{number_at}
use Rattle.field.specs.Records.{records, record_at, Bytes}
use Rattle.field.proofs.Bytes.{bytes_take, bytes_drop, bytes_part}
use Rattle.field.proofs.Number.{number_below}
use Rattle.field.proofs.Records.{records_length, records_at}
use Rattle.field.proofs.Format as format
use Rattle.field.proofs.Format.{Each, each_at, records_fit}
use Rattle.rules.specs.declared.Held as declared
use Rattle.rules.specs.Values.{Frame, no_frame, frame_at, part_bytes, used}
use Rattle.rules.specs.PartRule.{Stored, Piece, add_part, add_parts}
use Rattle.rules.specs.Plan.{offset_of, bytes_at}
use Rattle.rules.specs.File.{decode_held}
use Rattle.rules.proofs.Tests.{test}
use Rattle.laws.proofs.scans.PartRule.{add_parts_none, add_parts_skip, add_parts_add}
use Rattle.laws.proofs.Layouts.{HeldFits, signed_forth}
use Rattle.tables.specs.declared.FrameHeader.{FrameHeader}
use Rattle.tables.specs.Tables.{decode_header, headers_in, header_at, frame_of, frames_of, frames_in, parts_in}
use Rattle.tables.proofs.Frames.{stretch_length, frame_start, frames_used}
use Rattle.tables.proofs.Walk.{records_turn}
use Rattle.tables.specs.Index.{store_of}
use Rattle.index.proofs.Back.{HeaderFits, FrameFits, header_layout}
use Rattle.plan.proofs.Held.{weight_next, weight_offset}
use Rattle.index.proofs.Lent.{store_back}
use Rattle.index.proofs.Store.{store_part}
use Rattle.parts.specs.declared.Counts.{Counts}
use Rattle.parts.specs.declared.Source.{Source}
use Rattle.parts.specs.Parts.{PartTables, stored_in, counts_of, stored_over, Held, held, held_from}
use Rattle.parts.specs.Steps.{CountsReady, Room, wanted, InOrder, Lent, offset_to, held_piece, added_by}
use Rattle.parts.proofs.Frames.{count}
use Rattle.parts.proofs.Stored.{stays}
use Rattle.parts.proofs.Steps.{Typed, Fits, Step, step_part, stored_again, stands_there, next_room}

-- ---- what is read fits
pub held_fits : (b : List ℕ) → Bytes b → HeldFits (decode_held b)
unfolding decode_held
held_fits b h = record {
  numbers = (number_below 4 b 0 h, (number_below 4 b 4 h, (number_below 4 b 8 h, (number_below 4 b 12 h, tt))));
  signed = (signed_forth (number_at 4 b 16) (let f = number_below 4 b 16 h in omega arith)).1;
}

parts_fit : (h : ℕ) (t : List ℕ) → Bytes t → Each HeldFits (parts_in h t)
unfolding records
parts_fit zero t b = format.none
parts_fit (suc h) t b =
    format.one (held_fits (take 24 t) (bytes_take t 24 b)) (parts_fit h (drop 24 t) (bytes_drop t 24 b))

frames_fit : {hs : List FrameHeader} (store : List ℕ) → Each HeaderFits hs → Each FrameFits (frames_of hs store)
unfolding frames_of
frames_fit store format.none = format.none
frames_fit store (format.one {x = g} p ps) =
    format.one {x = frame_of g store} (p.0, (rw stretch_length p.1.0, tt)) (frames_fit (drop g.len store) ps)

pub fits_in : (f h : ℕ) (t : PartTables) → Bytes t.frames → Bytes t.parts → Fits (stored_in f h t)
fits_in f h t bf bp =
    record {
      frames = frames_fit t.store (records_fit header_layout f t.frames bf);
      parts = parts_fit h t.parts
          bp;
    }

-- ---- where a frame's bytes lie
used_at : (fs : List Frame) (i : ℕ) → i < length fs → used (take i fs) + length (frame_at fs i).bytes ≤ used fs
unfolding used
used_at [] i l = let z : ⊥ = omega arith in absurd z
used_at (f ∷ fs) zero l = omega arith
used_at (f ∷ fs) (suc i) l = let r = used_at fs i (omega arith) in omega arith

module _ (f : ℕ) (headers store : List ℕ) (room : used (frames_in f headers store) ≤ length store) where
  store_split : store ≡ store_of (frames_in f headers store) ++ drop (used (frames_in f headers store)) store
  store_split =
      let e = frames_used (headers_in f headers) [] store in
      let w = store_back (headers_in f headers) store (omega arith) in
      sym (rw (w, e) (take-append-drop (used (frames_in f headers store)) store))

  offset_is : (g : ℕ) → offset_to f headers g ≡ offset_of (frames_in f headers store) g
  offset_is g = weight_offset g g (headers_in f headers) store (omega arith) (omega arith) refl

  module _ (p : declared.Held) {off : ℕ} (is : off ≡ offset_to f headers p.frame)
      (l : p.frame < length (frames_in f headers store))
      (b : p.len ≤ length (frame_at (frames_in f headers store) p.frame).bytes) where
    pub bytes_inside : off + p.len ≤ length store
    bytes_inside =
        let e = is ∙ offset_is p.frame in let u = used_at (frames_in f headers store) p.frame l in omega arith

    pub bytes_there : take p.len (drop off store) ≡ part_bytes (frames_in f headers store) p
    unfolding bytes_at
    bytes_there =
        let e = is ∙ offset_is p.frame in
        let q = store_part (frames_in f headers store) (drop (used (frames_in f headers store)) store) p l b in
        let i : offset_of (frames_in f headers store) p.frame + p.len ≤ length store = rw e at bytes_inside in
        rw e (rw (← store_split, le-leb (offset_of (frames_in f headers store) p.frame + p.len) (length store) i)
        at q)

-- from one frame to the next
pub source_next : {off : ℕ} {x : FrameHeader} (f : ℕ) (headers : List ℕ) (i g : ℕ) → off ≡ offset_to f headers i
    → x ≡ header_at (headers_in f headers) i → i ≤ g → g ≤ i + 1 → (g ≡ i → ⊥)
    → off + x.len ≡ offset_to f headers g
source_next f headers i g e h a b z = let q : g ≡ i + 1 = omega arith in weight_next i (headers_in f headers) e h ∙ rw q

-- ---- one part
module _ (budget : ℕ) (c : Counts) (p : Piece) (t : PartTables) where
  pub added_no : {go : Bool} → go ≡ false → held c t ≡ added_by budget go c p t
  unfolding added_by
  added_no e = rw e

  added_yes : {go : Bool} → go ≡ true → held_from (add_part budget (stored_in c.frames c.parts t) p) t
      ≡ added_by budget go c p t
  unfolding added_by
  added_yes e = rw e

-- its bytes are cut from the other store
pub added_part : {x : Held} {z : ℤ} {go : Bool} (budget : ℕ) (c : Counts) (t : PartTables) (p : declared.Held)
    (at start from e : ℕ) (other : List ℕ) → z ≡ p.remaining → e ≡ from + p.len
    → go ≡ true
    → x ≡ held_from (add_part budget (stored_in c.frames c.parts t)
    (record {
      at = at;
      start = start;
      bytes = take (e - from) (drop from other);
      number = p.number;
      kind = p.kind;
      remaining = z;
    })) t
    → x ≡ added_by budget go c (held_piece p at start (take p.len (drop from other))) t
added_part budget c t p at start from e other r q l h =
    let k : e - from ≡ p.len = omega arith in
    (rw (r, k) at h) ∙ added_yes budget c (held_piece p at start (take p.len (drop from other))) t l

-- a part of frames fs as it is handed over, for the checkpoint that a number of it gives
abbrev pub numbered : (ℕ → ℕ) → List Frame → declared.Held → Piece
numbered f fs p =
    record {
      at = f p.at;
      start = (frame_at fs p.frame).start;
      bytes = part_bytes fs p;
      number = p.number;
      kind = p.kind;
      remaining = p.remaining;
    }

pub not_true : (b : Bool) → not b ≡ true → b ≡ false
not_true false e = refl
not_true true e = sym e

pub not_false : (b : Bool) → not b ≡ false → b ≡ true
not_false false e = sym e
not_false true e = refl

-- ---- the loop
-- which parts of frames fs are added, and for which checkpoint; what is then held, and how many these are
pub record Choice (budget : ℕ) (fs : List Frame) : Type 0 where
  pub wants : declared.Held → Bool
  pub number : ℕ → ℕ
  pub low : (a : ℕ) → number a ≤ a
  pub many : List declared.Held → ℕ
  pub many_yes : (p : declared.Held) (ps : List declared.Held) → wants p ≡ true → many (p ∷ ps) ≡ suc (many ps)
  pub many_no : (p : declared.Held) (ps : List declared.Held) → wants p ≡ false → many (p ∷ ps) ≡ many ps
  pub all : List declared.Held → Stored → Stored
  pub none : (h : Stored) → all [] h ≡ h
  pub yes : (p : declared.Held) (ps : List declared.Held) (h : Stored) → wants p ≡ true
      → all (p ∷ ps) h ≡ all ps (add_part budget h (numbered number fs p))
  pub no : (p : declared.Held) (ps : List declared.Held) (h : Stored) → wants p ≡ false → all (p ∷ ps) h ≡ all ps h

module _ (budget f h : ℕ) (o t0 : PartTables) (choice : Choice budget (frames_in f o.frames o.store)) where
  abbrev others : List Frame
  others = frames_in f o.frames o.store

  abbrev parts : List declared.Held
  parts = parts_in h o.parts

  -- j parts are looked at, and what is to be stored is given
  pub record Adding (given : Stored) (j : ℕ) (at : Source) (c : Counts) (t : PartTables) : Type 0 where
    pub within : j ≤ h
    pub source : at.offset ≡ offset_to f o.frames at.frame
    pub order : InOrder at.frame others (drop j parts)
    pub room : Room (choice.many (drop j parts)) budget c t
    pub fits : Fits (stored_in c.frames c.parts t)
    pub front : stored_over (stored_in c.frames c.parts t) t0 ≡ t
    pub rest : choice.all (drop j parts) (stored_in c.frames c.parts t) ≡ given

  -- one at least
  space_one : {w : ℕ} {c : Counts} {t : PartTables} → Room (suc w) budget c t → Room 1 budget c t
  space_one r = let f' = r.frames in let p' = r.parts in let e = r.few in
      record {
        ready = r.ready;
        kinds = r.kinds;
        frames = omega arith;
        parts = omega arith;
        few =
            (omega arith, omega arith);
      }

  -- as `add_one` counts: the tables are those of c
  counted : {c : Counts} {t : PartTables} → CountsReady budget c t → c ≡ counts_of (stored_in c.frames c.parts t)
  counted {c} {t} r =
      rw (count c.frames t.frames t.store, records_length 24 decode_held c.parts t.parts, ← r.bytes)

  pub adding_start : {c : Counts} → Lent f h o → Room (choice.many parts) budget c t0 → Bytes t0.frames
      → Bytes t0.parts
      → Adding (choice.all parts (stored_in c.frames c.parts t0)) 0 (record { frame = 0; offset = 0 }) c t0
  unfolding frames_of used
  adding_start {c} l r bf bp = record {
    within = omega arith;
    source = refl;
    order = l.order;
    room = r;
    fits = fits_in c.frames c.parts t0 bf bp;
    front = sym (ap (λ (x : Held). x.tables) (stays r.ready r.kinds bf bp));
    rest = refl;
  }

  module _ (l : Lent f h o) {given : Stored} {j : ℕ} {at : Source} {c : Counts} {t : PartTables}
      (k : Adding given j at c t) where
    pub adding_end : h ≤ j → held c t ≡ held_from given t0
    adding_end g =
        let e : drop j parts ≡ [] = drop_of_length-le parts {i = j} (rw records_length g) in
        let q : stored_in c.frames c.parts t ≡ given = sym (choice.none _) ∙ (rw e at k.rest) in
        let a : counts_of (stored_in c.frames c.parts t) ≡ c = sym (counted k.room.ready) in
        rw (← q, a, k.front)

    module _ (i : j < h) {p : declared.Held} (is : p ≡ record_at 24 decode_held o.parts j) where
      turn : drop j parts ≡ p ∷ drop (j + 1) parts
      turn = records_turn 24 decode_held h o.parts j i ∙ rw is

      wanted_yes : choice.wants p ≡ true → choice.many (drop j parts) ≡ suc (choice.many (drop (j + 1) parts))
      wanted_yes z = rw turn (choice.many_yes p (drop (j + 1) parts) z)

      wanted_no : choice.wants p ≡ false → choice.many (drop j parts) ≡ choice.many (drop (j + 1) parts)
      wanted_no z = rw turn (choice.many_no p (drop (j + 1) parts) z)

      pub in_order : InOrder at.frame others (p ∷ drop (j + 1) parts)
      in_order = rw turn at k.order

      pub source_ready : (at.offset ≡ offset_to f o.frames at.frame) × (at.frame ≤ p.frame)
          × (p.frame ≤ at.frame + 1) × (p.frame < f) × (f * 8 ≤ length o.frames)
          × (at.offset ≤ length o.store)
      source_ready =
          let q = in_order in
          let a = q.0 in let b = q.2 in
          let u = used_at others at.frame (omega arith) in let s = l.store in
          let e = k.source ∙ offset_is f o.frames o.store l.store at.frame in
          (k.source, q.0, q.1, rw (count f o.frames o.store) at q.2, l.frames, omega arith)

      module _ {at' : Source} (there : (at'.frame ≡ p.frame) × (at'.offset ≡ offset_to f o.frames p.frame))
          {g : FrameHeader} (header : g ≡ record_at 8 decode_header o.frames p.frame)
          {go : Bool} (goes : go ≡ choice.wants p) where
        pub one_ready : (go ≡ true → Room 1 budget c t) × (at'.offset + p.len ≤ length o.store)
        one_ready = (
          (λ z. let e : choice.many (drop j parts)
              ≡ suc (choice.many (drop (j + 1) parts)) = wanted_yes (sym goes ∙ z) in space_one (rw e at k.room)),
          (let q = in_order in bytes_inside f o.frames o.store l.store p there.1 q.2 q.3),
        )

        piece_is : held_piece p (choice.number p.at) g.start (take p.len (drop at'.offset o.store))
            ≡ numbered choice.number others p
        piece_is =
            let q = in_order in
            let u : p.frame < f = rw (count f o.frames o.store) at q.2 in
            let e : (frame_at others p.frame).start ≡ g.start =
            frame_start (headers_in f o.frames) o.store p.frame
            ∙ rw (records_at 8 decode_header f o.frames p.frame (record { start = 0; len = 0 }) u, header) in
            rw (e, bytes_there f o.frames o.store l.store p there.1 q.2 q.3)

        typed : Bytes o.frames → Bytes o.parts → Typed (numbered choice.number others p)
        typed bf bp =
            let x : HeldFits p = rw is (held_fits _ (bytes_part o.parts (j * 24) 24 bp)) in
            let y = each_at p.frame no_frame (frames_fit o.store (records_fit header_layout f o.frames bf))
            (omega arith, (omega arith, tt)) in
            let a = x.numbers.0 in let b = choice.low p.at in
            record { at = omega arith; start = y.0; number = x.numbers.1.1.1.0; remaining = x.signed }

        module _ {c' : Counts} {t' : PartTables}
            (added : held c' t' ≡ added_by budget go c
            (held_piece p (choice.number p.at) g.start (take p.len (drop at'.offset o.store))) t) where
          skipped : choice.wants p ≡ false → Adding given (j + 1) at' c' t'
          unfolding added_by
          skipped z =
              let e : held c' t' ≡ held c t = rw (goes, z) at added in
              let ec : c' ≡ c = ap (λ (x : Held). x.counts) e in
              let et : t' ≡ t = ap (λ (x : Held). x.tables) e in
              rw (ec, et) (record {
                within = omega arith;
                source = rw there.0 there.1;
                order = rw there.0 in_order.4;
                room = rw (wanted_no z) at k.room;
                fits = k.fits;
                front = k.front;
                rest = sym (choice.no p (drop (j + 1) parts) _ z) ∙ (rw turn at k.rest);
              })

          stored_on : Bytes o.frames → Bytes o.parts → choice.wants p ≡ true → Adding given (j + 1) at' c' t'
          unfolding added_by
          stored_on bf bp z =
              let s = stored_in c.frames c.parts t in
              let s' = add_part budget s (numbered choice.number others p) in
              let e : held c' t' ≡ held_from s' t = rw (goes, z, piece_is) at added in
              let ec : c' ≡ counts_of s' = ap (λ (x : Held). x.counts) e in
              let et : t' ≡ stored_over s' t = ap (λ (x : Held). x.tables) e in
              let r : Room (suc (choice.many (drop (j + 1) parts))) budget c t = rw (wanted_yes z) at k.room in
              let cf = count c.frames t.frames t.store in
              let cp = records_length 24 decode_held c.parts t.parts in
              let rb = r.ready.bytes in let rf = r.ready.fits in let few = r.few in
              let st : Step budget s s' =
              step_part budget s (numbered choice.number others p) (rw cf (omega arith)) (omega arith)
              (rw (cf, cp) r.ready.some) k.fits (typed bf bp) in
              let here = stands_there st t in
              rw (ec, et) (record {
                within = omega arith;
                source = rw there.0 there.1;
                order = rw there.0 in_order.4;
                room = next_room st t (counted r.ready) r;
                fits = rw here st.fits;
                front =
                    ap (λ (x : Stored). stored_over x t0) here ∙ sym (stored_again st t0)
                    ∙ ap (stored_over s') k.front;
                rest = rw here (sym (choice.yes p (drop (j + 1) parts) s z) ∙ (rw turn at k.rest));
              })

          pub adding_on : Bytes o.frames → Bytes o.parts → Adding given (j + 1) at' c' t'
          adding_on bf bp = test (choice.wants p) (λ e. stored_on bf bp e) (λ e. skipped e)

-- ---- those for checkpoint number n or later
module _ (n : ℕ) (p : declared.Held) (ps : List declared.Held) where
  pub wanted_more : not (ltb p.at n) ≡ true → wanted n (p ∷ ps) ≡ suc (wanted n ps)
  unfolding wanted
  wanted_more e = rw (not_true (ltb p.at n) e)

  pub wanted_same : not (ltb p.at n) ≡ false → wanted n (p ∷ ps) ≡ wanted n ps
  unfolding wanted
  wanted_same e = rw (not_false (ltb p.at n) e)

abbrev pub later_parts : (budget n : ℕ) (fs : List Frame) → Choice budget fs
later_parts budget n fs = record {
  wants = λ p. not (ltb p.at n);
  number = λ a. a;
  low = λ a. omega arith;
  many = wanted n;
  many_yes = wanted_more n;
  many_no = wanted_same n;
  all = add_parts budget fs n;
  none = add_parts_none budget fs n;
  yes = λ p ps h e. add_parts_add budget fs n p ps h (not_true (ltb p.at n) e);
  no = λ p ps h e. add_parts_skip budget fs n p ps h (not_false (ltb p.at n) e);
}
