-- A list put into its tables: it stands there, its kinds are 0 or 1, and the tables keep their lengths. Assumes nothing.
use Rattle.std.specs.Prelude.{Option, None, Some}
use mathlib.Core.Path.{◌≡◌, refl, ap, ◌∙◌}
use mathlib.Core.Bool.{true}
use mathlib.Core.List.{List, ◌++◌, append_assoc}
use Prim.Native.Nat.{ℕ, ◌+◌, ◌-◌, ◌*◌, ◌/◌, ◌≤◌}
use native.Mathlib.Omega.{arith}
use borrow.Author.Tests.{leb-true, ltb-true, le-leb}
use lib.ListN.{length, drop, replicate, length-append, length-drop, length-replicate}
use lib.Seq.{drop_at}
use Rattle.field.specs.Records.{records, bytes_of}
use Rattle.field.proofs.Number.{number_take}
use Rattle.field.proofs.Format as format
use Rattle.field.proofs.Format.{Each, one, bytes_of_length, records_bytes}
use Rattle.rules.specs.declared.EndState.{EndState}
use Rattle.rules.specs.declared.Held.{Held}
use Rattle.rules.specs.Tests.{each}
use Rattle.rules.specs.Values.{Index, lim, max64, max_malformed, merge_room, boundaries, count, frontier, used}
use Rattle.rules.specs.Sections.{begun, unfilled, checkpoints_ok, frames_ok, parts_ok, malformed_ok, rising, own_lsn, any_lsn, hint_lsn, hint_ok, hints_ok, mark_ok, marks_ok, confirmed_lsn, confirmation_ok, confirmations_ok}
use Rattle.rules.specs.Questions.{question3, scan_room, hinting_room}
use Rattle.rules.specs.File.{encode_checkpoint, encode_frame_header, encode_held, encode_lsn, encode_confirmation, over}
use Rattle.rules.proofs.Tests.{both, all→, each→, each_both, each_map}
use Rattle.rules.proofs.Walk.{rising_each}
use Rattle.laws.proofs.scans.Parts.{frames_used}
use Rattle.laws.specs.Statements.{Savable}
use Rattle.laws.proofs.Layouts.{CheckpointFits, LsnFits, HeldFits, ConfirmationFits, checkpoint_layout, lsn_layout, confirmation_layout, held_length, held_back, held_kind}
use Rattle.laws.proofs.Length.{length_each}
use Rattle.laws.proofs.Readers as readers
use Rattle.laws.proofs.Ranges.{Placed, frontier_small, checkpoints_fit, frames_placed, frames_fit, parts_fit}
use Rattle.laws.proofs.Facts.{Facts, facts}
use Rattle.laws.proofs.Header.{scan_counts, few_boundaries}
use Rattle.tables.specs.Tables.{parts_in, encode_kept}
use Rattle.tables.proofs.Kept.{KeptFits, kept_layout}
use Rattle.tables.specs.Index.{Tables, room_of, index_in, kinds_ok, kinds_in, numbers_from, store_of, tables_from, tables_cleared}
use Rattle.index.proofs.Back.{FrameFits, frames_back, header_length}
use Rattle.index.proofs.Store.{store_length}

ending_back : (o : Option EndState) → o ≡ o
ending_back None = refl
ending_back (Some e) = refl

image_back : (o : Option ℕ) → o ≡ o
image_back None = refl
image_back (Some v) = refl

-- ---- what fits its records
module _ (x : Index) (f : Facts x) where
  pub checkpoints_fits : Each CheckpointFits x.scan.checkpoints
  unfolding checkpoints_ok
  checkpoints_fits =
      checkpoints_fit x.scan.area x.scan.interval f.numbers.low f.area (begun 0) x.scan.checkpoints
      (let c = scan_counts x f in omega arith) f.scan.checkpoints f.sizes.checkpoints

  pub frames_in : Each (Placed x.scan.area) x.scan.frames
  unfolding frames_ok
  frames_in = frames_placed x.scan.area x.scan.budget (unfilled x.scan.area) x.scan.frames f.scan.frames

  pub frames_fits : Each readers.FrameFits x.scan.frames
  frames_fits = frames_fit x.scan.area x.scan.frames f.area frames_in f.sizes.frames

  pub headers_fits : Each FrameFits x.scan.frames
  headers_fits = each_map (λ g p. p.numbers) frames_fits

  pub parts_fits : Each HeldFits x.scan.parts
  unfolding parts_ok
  parts_fits =
      let c = scan_counts x f in
      let n = few_boundaries x f in
      parts_fit x.scan.area x.scan.interval x.scan.checkpoints x.scan.frames None x.scan.parts f.area (omega arith) (omega arith)
      frames_in (all→ _ f.scan.parts).0 f.sizes.parts

  pub malformed_fits : Each LsnFits x.scan.malformed
  unfolding malformed_ok rising
  malformed_fits =
      let c = scan_counts x f in
      let u = frontier_small x.scan.area x.scan.interval (count x.scan) x.scan.ending f.numbers.low f.area c.passed in
      each_map (λ l p. omega arith) (rising_each own_lsn any_lsn (frontier x.scan) x.scan.area.start x.scan.malformed (all→ _ f.scan.malformed).1.0)

  pub hints_fits : Each KeptFits x.hinting.hints
  unfolding hints_ok rising marks_ok
  hints_fits =
      each_both (λ h p q. let n = ltb-true h.number lim p.1 in let m = leb-true h.mark 1 q in omega arith)
      (rising_each hint_lsn hint_ok x.scan.area.end x.scan.area.start x.hinting.hints f.hinting.hints) (each→ mark_ok x.hinting.hints (all→ _ f.hinting.marks).0)

  pub confirmed_fits : Each ConfirmationFits x.hinting.confirmed
  unfolding confirmations_ok rising
  confirmed_fits =
      each_both (λ h p q. let d = leb-true h.digest max64 q in let n = ltb-true h.threshold lim p.1 in omega arith)
      (rising_each confirmed_lsn confirmation_ok x.scan.area.end x.scan.area.start x.hinting.confirmed f.hinting.confirmed) f.sizes.confirmed

-- ---- it stands there
pub held_records : {ps : List Held} (r : List ℕ) → Each HeldFits ps → parts_in (length ps) (bytes_of encode_held ps ++ r) ≡ ps
unfolding records bytes_of
held_records r format.none = refl
held_records r (one {x = p} {xs = ps} f g) =
    rw (append_assoc, held_back p f (bytes_of encode_held ps ++ r), drop_at (encode_held p) (bytes_of encode_held ps ++ r) 24 (held_length p), held_records r g)

-- what the numbers and the tables of a list stand for is the list
pub stands : (x : Index) (t : Tables) → Savable x → index_in (numbers_from x) (tables_from x t) ≡ x
stands x t s =
    let f = facts x s in
    rw (
      records_bytes checkpoint_layout _ (checkpoints_fits x f),
      frames_back _ _ (headers_fits x f),
      held_records _ (parts_fits x f),
      ending_back x.scan.ending,
      records_bytes lsn_layout _ (malformed_fits x f),
      records_bytes kept_layout _ (hints_fits x f),
      records_bytes confirmation_layout _ (confirmed_fits x f),
      image_back x.image,
    )

-- with the hint table cleared behind the list too
pub stands_cleared : (w : ℕ) (x : Index) (t : Tables) → Savable x → index_in (numbers_from x) (tables_cleared w x t) ≡ x
stands_cleared w x t s =
    let f = facts x s in
    let hs = bytes_of encode_kept x.hinting.hints in
    let zs : List ℕ = replicate ((w - length x.hinting.hints) * 8) 0 in
    let r = drop (length (hs ++ zs)) t.hints in
    let a : hs ++ zs ++ r ≡ hs ++ (zs ++ r) = append_assoc hs zs r in
    rw (
      records_bytes checkpoint_layout _ (checkpoints_fits x f),
      frames_back _ _ (headers_fits x f),
      held_records _ (parts_fits x f),
      ending_back x.scan.ending,
      records_bytes lsn_layout _ (malformed_fits x f),
      a,
      records_bytes kept_layout (zs ++ r) (hints_fits x f),
      records_bytes confirmation_layout _ (confirmed_fits x f),
      image_back x.image,
    )

-- ---- its kinds
pub kinds_held : {ps : List Held} (r : List ℕ) → Each HeldFits ps → kinds_ok (length ps) (bytes_of encode_held ps ++ r) ≡ true
unfolding kinds_ok records bytes_of each
kinds_held r format.none = refl
kinds_held r (one {x = p} {xs = ps} f g) =
    let s = bytes_of encode_held ps ++ r in
    let a : encode_held p ++ bytes_of encode_held ps ++ r ≡ encode_held p ++ s = append_assoc (encode_held p) (bytes_of encode_held ps) r in
    rw (a, drop_at (encode_held p) s 24 (held_length p), number_take 4 24 (encode_held p ++ s) 20 (omega arith))
    (both (le-leb _ 1 (held_kind p f s)) (kinds_held r g))

pub kinds_from : (x : Index) (t : Tables) → Savable x → kinds_in (numbers_from x) (tables_from x t) ≡ true
kinds_from x t s = kinds_held _ (parts_fits x (facts x s))

-- ---- the tables keep their lengths
-- the records of x lie in the tables
pub record Within (x : Index) (t : Tables) : Type 0 where
  pub checkpoints : length x.scan.checkpoints * 24 ≤ length t.checkpoints
  pub frames : length x.scan.frames * 8 ≤ length t.frames
  pub store : used x.scan.frames ≤ length t.store
  pub parts : length x.scan.parts * 24 ≤ length t.parts
  pub malformed : length x.scan.malformed * 4 ≤ length t.malformed
  pub hints : length x.hinting.hints * 8 ≤ length t.hints
  pub confirmed : length x.hinting.confirmed * 16 ≤ length t.confirmed

pub within : (x : Index) (t : Tables) → Facts x → question3 (room_of t) x ≡ true → Within x t
unfolding question3 scan_room hinting_room
within x t f e =
    let q = all→ _ e in
    let s = all→ _ q.0 in
    let h = all→ _ q.1.1.0 in
    let c = scan_counts x f in
    let n : boundaries x.scan.area x.scan.interval ≤ length t.checkpoints / 24 = leb-true _ _ s.0 in
    let g : boundaries x.scan.area x.scan.interval ≤ length t.frames / 8 = leb-true _ _ s.1.0 in
    let p : boundaries x.scan.area x.scan.interval ≤ length t.parts / 24 = leb-true _ _ s.1.1.0 in
    let b : x.scan.budget ≤ length t.store = leb-true _ _ s.1.1.1.0 in
    let u = frames_used x.scan.area x.scan.budget x.scan.frames f.scan.frames in
    let m : max_malformed ≤ length t.malformed / 4 = leb-true _ _ q.1.0 in
    let i : x.hinting.most + merge_room ≤ length t.hints / 8 = leb-true _ _ h.0 in
    let k : x.hinting.most + 1 ≤ length t.confirmed / 16 = leb-true _ _ h.1.0 in
    let y = f.hinting.few in
    let z = f.hinting.fewer in
    record {
      checkpoints = omega arith;
      frames = omega arith;
      store = omega arith;
      parts = omega arith;
      malformed = omega arith;
      hints = omega arith;
      confirmed = omega arith;
    }

pub over_length : (new old : List ℕ) → length new ≤ length old → length (over new old) ≡ length old
over_length new old h = length-append new (drop (length new) old) ∙ rw (length-drop (length new) old) (omega arith)

module _ {A : Type 0} (e : A → List ℕ) (w : ℕ) (size : (a : A) → length (e a) ≡ w) where
  records_over : (xs : List A) (old : List ℕ) → length xs * w ≤ length old → length (over (bytes_of e xs) old) ≡ length old
  records_over xs old h = over_length (bytes_of e xs) old (rw (length_each e w size xs) (omega arith))

module _ (x : Index) (t : Tables) (h : Within x t) where
  pub room_from : room_of (tables_from x t) ≡ room_of t
  room_from =
      rw (
        records_over encode_checkpoint 24 checkpoint_layout.size x.scan.checkpoints t.checkpoints h.checkpoints,
        records_over encode_frame_header 8 header_length x.scan.frames t.frames h.frames,
        over_length (store_of x.scan.frames) t.store (rw (store_length x.scan.frames) h.store),
        records_over encode_held 24 held_length x.scan.parts t.parts h.parts,
        records_over encode_lsn 4 lsn_layout.size x.scan.malformed t.malformed h.malformed,
        records_over encode_kept 8 kept_layout.size x.hinting.hints t.hints h.hints,
        records_over encode_confirmation 16 confirmation_layout.size x.hinting.confirmed t.confirmed h.confirmed,
      )

  cleared_length : (w : ℕ) → w * 8 ≤ length t.hints → length (tables_cleared w x t).hints ≡ length t.hints
  cleared_length w g =
      let hs = bytes_of encode_kept x.hinting.hints in
      let k = (w - length x.hinting.hints) * 8 in
      let zs : List ℕ = replicate k 0 in
      let n : length hs ≡ length x.hinting.hints * 8 = bytes_of_length kept_layout x.hinting.hints in
      let l : length (hs ++ zs) ≡ length x.hinting.hints * 8 + k = length-append hs zs ∙ rw (n, length-replicate {A = ℕ} k 0) in
      let i = h.hints in
      over_length (hs ++ zs) t.hints (omega arith)

  pub room_cleared : (w : ℕ) → w * 8 ≤ length t.hints → room_of (tables_cleared w x t) ≡ room_of t
  room_cleared w g =
      λ i. record {
        checkpoints = (room_from i).checkpoints;
        frames = (room_from i).frames;
        store = (room_from i).store;
        parts = (room_from i).parts;
        malformed = (room_from i).malformed;
        hints = ap (λ (n : ℕ). n / 8) (cleared_length w g) i;
        confirmed = (room_from i).confirmed;
      }
