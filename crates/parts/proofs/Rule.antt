-- The part rule by what the tables say: the last frame's header, the last part, and the store. Assumes nothing.
use mathlib.Core.Path.{◌≡◌, sym, ◌∙◌}
use mathlib.Core.Bool.{Bool, true, false, ◌||◌, and-true}
use mathlib.Core.List.{List}
use Prim.Native.Nat.{ℕ, ◌+◌, ◌-◌, ◌<◌, ◌≤◌}
use native.Mathlib.Omega.{arith}
use borrow.Author.Tests.{le-leb, lt-leb, eqb-false}
use lib.Dec.{eqb, leb, ltb}
use lib.ListN.{length}
use Rattle.field.specs.Records.{record_at}
use Rattle.field.proofs.Records.{records_length, records_at}
use Rattle.rules.specs.declared.Held.{Held}
use Rattle.rules.specs.Tests.{all, last_or}
use Rattle.rules.specs.Values.{no_held, max_frame}
use Rattle.rules.specs.PartRule.{Stored, Piece, opens, joins, growth, stores}
use Rattle.rules.specs.File.{decode_held}
use Rattle.rules.proofs.Tests.{and_assoc, or_none}
use Rattle.tables.specs.declared.FrameHeader.{FrameHeader}
use Rattle.tables.specs.Tables.{parts_in}
use Rattle.tables.proofs.Tests.{leb_left}
use Rattle.parts.specs.declared.Counts.{Counts}
use Rattle.parts.specs.Parts.{PartTables, stored_in}
use Rattle.parts.specs.Steps.{CountsReady, joins_in}
use Rattle.parts.proofs.Frames.{last_header, last_start, last_length, last_used, last_bytes}

-- the last part
pub last_part : {q : Held} (h : ℕ) (t : List ℕ) → 1 ≤ h → q ≡ record_at 24 decode_held t (h - 1)
    → q ≡ last_or no_held (parts_in h t)
unfolding last_or
last_part h t l e =
    e ∙ rw (records_length 24 decode_held h t) (sym (records_at 24 decode_held h t (h - 1) no_held (omega arith)))

module _ {budget : ℕ} {c : Counts} {t : PartTables} (r : CountsReady budget c t) {last : FrameHeader}
    (is : last ≡ last_header c.frames t.frames) where
  -- the last frame's bytes are in the store
  pub last_inside : {new : Bool} (start : ℕ) → new ≡ (eqb c.parts 0 || ltb last.start start) → new ≡ false
      → (1 ≤ c.parts) × (last.len ≤ c.used)
  last_inside {new} start e o =
      let w = eqb-false c.parts 0 (or_none (eqb c.parts 0) (ltb last.start start) (sym e ∙ o)).0 in
      let some : 1 ≤ c.parts = omega arith in
      let u = last_used c.frames t.frames t.store (r.some some) in
      let b = r.bytes in
      (some, rw is (omega arith))

  module _ (p : Piece) {new : Bool} (New-is : new ≡ (eqb c.parts 0 || ltb last.start p.start)) where
    abbrev stored : Stored
    stored = stored_in c.frames c.parts t

    pub opens_is : new ≡ opens stored p
    unfolding opens
    opens_is =
        New-is ∙ rw (
          is,
          records_length 24 decode_held c.parts t.parts,
          last_start c.frames t.frames
              t.store,
        )

    -- more than a frame may have
    pub long_out : max_frame < length p.bytes → false ≡ stores budget stored p
    unfolding stores all
    long_out l = rw (lt-leb (length p.bytes) max_frame l)

    module _ (short : length p.bytes ≤ max_frame) where
      -- a frame of its own
      pub opens_in : {m : ℕ} → new ≡ true → m ≡ budget - c.used → leb (length p.bytes) m ≡ stores budget stored p
      unfolding stores growth all
      opens_in o e =
          rw (
            e,
            leb_left c.used (length p.bytes) budget r.fits,
            le-leb (length p.bytes) max_frame short,
            sym
                opens_is ∙ o,
            ← r.bytes,
          ) (simp and-true)

      module _ (o : new ≡ false) where
        grows : growth stored p ≡ length p.bytes - last.len
        unfolding growth
        grows = rw (sym opens_is ∙ o, last_length c.frames t.frames t.store, is)

        -- the budget is full
        pub full_out : budget - c.used + last.len < length p.bytes → false ≡ stores budget stored p
        unfolding stores all
        full_out l =
            let f = r.fits in
            rw (
              le-leb (length p.bytes) max_frame short,
              grows,
              ← r.bytes,
              lt-leb
                  (c.used + (length p.bytes - last.len)) budget (omega arith),
            )

        joins_is : joins_in c last (last_or no_held (parts_in c.parts t.parts)) t.store p ≡ joins stored p
        unfolding joins_in joins all
        joins_is =
            let s = r.store in let f = r.fits in let some = r.some (last_inside p.start New-is o).0 in
            rw (
              is,
              last_start c.frames t.frames t.store,
              last_bytes c.frames t.frames t.store some
                  c.used r.bytes (omega arith),
            )
            (simp (and-true, and_assoc))

        -- in the last frame
        pub joins_in_lemma : length p.bytes ≤ budget - c.used + last.len
            → joins_in c last (last_or no_held (parts_in c.parts t.parts)) t.store p ≡ stores budget stored p
        unfolding stores all
        joins_in_lemma l =
            let f = r.fits in
            rw (
              joins_is,
              le-leb (length p.bytes) max_frame short,
              grows,
              ← r.bytes,
              le-leb
                  (c.used + (length p.bytes - last.len)) budget (omega arith),
              sym opens_is ∙ o,
            ) (simp and-true)
