-- A part added to tables: what stands there afterwards, and that there is space for the next. Assumes nothing.
use mathlib.Core.Path.{◌≡◌, sym, ap, ◌∙◌}
use mathlib.Core.Logic.{⊎_elim}
use mathlib.Core.List.{List, [], ◌∷◌, ◌++◌}
use Prim.Native.Nat.{ℕ, zero, suc, ◌+◌, ◌-◌, ◌*◌, ◌<◌, ◌≤◌}
use native.Mathlib.Omega.{arith}
use borrow.Author.Tests.{leb-true}
use lib.ListN.{length, drop, set, length-append, length-drop, length-set}
use lib.Seq.{drop-append-add, drop-drop}
use lib.Signed.{mag}
use Rattle.field.specs.Records.{bytes_of}
use Rattle.field.proofs.Format as format
use Rattle.field.proofs.Format.{Each, each_append, each_at}
use Rattle.rules.specs.declared.Held as declared
use Rattle.rules.specs.Tests.{last_or}
use Rattle.rules.specs.Values.{Frame, no_frame, max_frame, used}
use Rattle.rules.specs.PartRule.{Stored, Piece, last_frame, part_of, opens, opened, grown, growth, stores, add_part}
use Rattle.rules.specs.File.{encode_frame_header, encode_held, over}
use Rattle.rules.proofs.Tests.{test, all→}
use Rattle.rules.proofs.Walk.{Snoc, ends, length_snoc, set_last, last_or_snoc}
use Rattle.laws.proofs.scans.Parts.{used_snoc}
use Rattle.laws.proofs.scans.PartRule.{longer, some_part}
use Rattle.laws.proofs.Layouts.{HeldFits, held_length}
use Rattle.laws.proofs.Length.{length_each}
use Rattle.tables.specs.Index.{store_of}
use Rattle.index.proofs.Back.{FrameFits, frames_back, headers_length}
use Rattle.index.proofs.Standing.{held_records, kinds_held, over_length}
use Rattle.index.proofs.Store.{store_length}
use Rattle.parts.specs.declared.Counts.{Counts}
use Rattle.parts.specs.Parts.{PartTables, stored_in, counts_of, stored_over}
use Rattle.parts.specs.Steps.{Room}

-- ---- what a part adds
-- its numbers fit their types
pub record Typed (p : Piece) : Type 0 where
  pub at : p.at < 4294967296
  pub start : p.start < 4294967296
  pub number : p.number < 4294967296
  pub remaining : mag p.remaining < 2147483648

-- what is stored fits its records
pub record Fits (s : Stored) : Type 0 where
  pub frames : Each FrameFits s.frames
  pub parts : Each HeldFits s.parts

each_set : {A : Type 0} {P : A → Type 0} {xs : List A} (i : ℕ) (y : A) → Each P xs → P y → Each P (set xs i y)
each_set i y format.none q = format.none
each_set zero y (format.one p ps) q = format.one q ps
each_set (suc i) y (format.one p ps) q = format.one p (each_set i y ps q)

-- from s to s', at most one part more
pub record Step (budget : ℕ) (s s' : Stored) : Type 0 where
  pub frames : (length s.frames ≤ length s'.frames) × (length s'.frames ≤ length s.frames + 1)
  pub parts : (length s.parts ≤ length s'.parts) × (length s'.parts ≤ length s.parts + 1)
  pub used : (used s.frames ≤ used s'.frames) × (used s'.frames ≤ budget)
  pub some : 1 ≤ length s'.parts → 1 ≤ length s'.frames
  pub fits : Fits s'

module _ (budget : ℕ) (s : Stored) (p : Piece) (few : length s.frames < 4294967296)
    (under : used s.frames ≤ budget) (some : 1 ≤ length s.parts → 1 ≤ length s.frames) (fits : Fits s)
    (typed : Typed p) where
  part_fits : (i : ℕ) → i < 4294967296 → length p.bytes ≤ max_frame → Each HeldFits (s.parts ++ (part_of p i ∷ []))
  part_fits i l n =
      each_append fits.parts
      (format.one (record { numbers = (typed.at, (l, (omega arith, (typed.number, tt)))); signed = typed.remaining })
      format.none)

  last_fits : (more : List ℕ) → length more ≤ max_frame - length (last_frame s).bytes
      → FrameFits (longer (last_frame s) more)
  unfolding last_or
  last_fits more l =
      let f = each_at (length s.frames - 1) no_frame fits.frames (omega arith, (omega arith, tt)) in
      (f.0, (rw length-append (omega (arith, f.1.0)), tt))

  step_opened : length p.bytes ≤ max_frame → used s.frames + length p.bytes ≤ budget
      → Step budget s (opened s p)
  step_opened n w =
      let g : Frame = record { start = p.start; bytes = p.bytes } in
      let a = length_snoc s.frames g in let b = length_snoc s.parts (part_of p (length s.frames)) in
      let u = used_snoc s.frames g in
      record {
        frames = (omega arith, omega arith);
        parts = (omega arith, omega arith);
        used = (omega arith, omega arith);
        some = λ x. omega arith;
        fits =
            record {
              frames = each_append fits.frames (format.one (typed.start, (omega arith, tt)) format.none);
              parts = part_fits (length s.frames) few n;
            };
      }

  step_grown : length p.bytes ≤ max_frame → 1 ≤ length s.parts
      → used s.frames + (length p.bytes - length (last_frame s).bytes) ≤ budget → Step budget s (grown s p)
  step_grown n h w =
      let more = drop (length (last_frame s).bytes) p.bytes in
      let g = longer (last_frame s) more in
      let x = some h in
      let lg = length-set s.frames (length s.frames - 1) g in
      let b = length_snoc s.parts (part_of p (length s.frames - 1)) in
      ⊎_elim (λ (z : s.frames ≡ []). let y : length s.frames ≡ 0 = ap length z in let v : ⊥ = omega arith in
      absurd v)
      (λ (z : Snoc s.frames).
      let last : last_frame s ≡ z.last = ap (last_or no_frame) z.is ∙ last_or_snoc no_frame z.init z.last in
      let fs : (grown s p).frames ≡ z.init ++ (g ∷ []) = ap (λ (y : List Frame). set y (length y - 1) g) z.is
      ∙ set_last z.init z.last g in
      let before : used s.frames ≡ used z.init + length (last_frame s).bytes = ap used z.is
      ∙ used_snoc z.init z.last ∙ rw last in
      let after : used (grown s p).frames ≡ used z.init
      + (length (last_frame s).bytes + (length p.bytes - length (last_frame s).bytes)) =
      ap used fs ∙ used_snoc z.init g ∙ rw (length-append, length-drop) in
      record {
        frames = (omega arith, omega arith);
        parts = (omega arith, omega arith);
        used = (omega arith, omega arith);
        some = λ y. omega arith;
        fits =
            record {
              frames = each_set (length s.frames - 1) g fits.frames
                  (last_fits more (omega (arith, length-drop (length (last_frame s).bytes) p.bytes)));
              parts = part_fits
                  (length s.frames - 1) (omega arith) n;
            };
      })
      (ends s.frames)

  -- the part rule takes such a step
  pub step_part : Step budget s (add_part budget s p)
  unfolding add_part stores growth
  step_part =
      test (stores budget s p)
      (λ e.
      let z = all→ _ e in let n = leb-true (length p.bytes) max_frame z.0 in
      test (opens s p) (λ o. rw (e, o) (step_opened n
      (leb-true (used s.frames + length p.bytes) budget (rw o at z.1.0))))
      (λ o. rw (e, o) (step_grown n (some_part s p o)
      (leb-true (used s.frames + (length p.bytes - length (last_frame s).bytes)) budget (rw o at z.1.0)))))
      (λ e. rw e (record {
        frames = (omega arith, omega arith);
        parts = (omega arith, omega arith);
        used = (omega arith, under);
        some = some;
        fits = fits;
      }))

-- ---- tables afterwards
-- what was put over a table and is put over again
over_over : (a b t : List ℕ) → length a ≤ length b → over b (over a t) ≡ over b t
over_over a b t h =
    let q : length b ≡ length a + (length b - length a) = omega arith in
    ap (λ (r : List ℕ). b ++ r) (ap (λ (n : ℕ). drop n (a ++ drop (length a) t)) q
    ∙ drop-append-add a (drop (length a) t) (length b - length a) ∙ drop-drop (length b - length a) (length a) t
    ∙ rw (← q))

parts_size : (ps : List declared.Held) → length (bytes_of encode_held ps) ≡ 24 * length ps
parts_size ps = length_each encode_held 24 held_length ps

module _ {budget : ℕ} {s s' : Stored} (k : Step budget s s') (t : PartTables) where
  pub stored_again : stored_over s' (stored_over s t) ≡ stored_over s' t
  stored_again =
      let a = k.frames.0 in let b = k.parts.0 in let c = k.used.0 in
      rw (
        over_over (bytes_of encode_frame_header s.frames) (bytes_of encode_frame_header s'.frames) t.frames
            (rw (headers_length, headers_length) (omega arith)),
        over_over (store_of s.frames) (store_of s'.frames) t.store
            (rw (store_length s.frames, store_length s'.frames) c),
        over_over (bytes_of encode_held s.parts) (bytes_of encode_held s'.parts) t.parts
            (rw (parts_size, parts_size) (omega arith)),
      )

  -- it stands there
  pub stands_there : stored_in (length s'.frames) (length s'.parts) (stored_over s' t) ≡ s'
  stands_there = rw (frames_back _ _ k.fits.frames, held_records _ k.fits.parts)

  module _ {n : ℕ} {c : Counts} (is : c ≡ counts_of s) (r : Room (suc n) budget c t) where
    lengths : (length (stored_over s' t).frames ≡ length t.frames)
        × (length (stored_over s' t).store ≡ length t.store) × (length (stored_over s' t).parts ≡ length t.parts)
    lengths =
        let a = k.frames.1 in let b = k.parts.1 in let u = k.used.1 in let st = r.ready.store in
        let f = r.frames in let p = r.parts in
        let cf = ap (λ (x : Counts). x.frames) is in let cp = ap (λ (x : Counts). x.parts) is in (
          over_length (bytes_of encode_frame_header s'.frames) t.frames (rw headers_length (omega arith)),
          over_length (store_of s'.frames) t.store (rw store_length (omega arith)),
          over_length (bytes_of encode_held s'.parts) t.parts (rw parts_size (omega arith)),
        )

    -- with space for one less
    pub next_room : Room n budget (counts_of s') (stored_over s' t)
    next_room =
        let a = k.frames.1 in let b = k.parts.1 in let u = k.used.1 in let st = r.ready.store in
        let f = r.frames in let p = r.parts in let few = r.few in
        let cf = ap (λ (x : Counts). x.frames) is in let cp = ap (λ (x : Counts). x.parts) is in
        let l = lengths in
        record {
          ready =
              record {
                frames = rw l.0 (omega arith);
                parts = rw l.2 (omega arith);
                store = rw l.1 (omega arith);
                bytes = sym (ap (λ (x : Stored). used x.frames) stands_there);
                fits = u;
                some = k.some;
              };
          kinds = kinds_held _ k.fits.parts;
          frames = rw l.0 (omega arith);
          parts = rw l.2 (omega arith);
          few = (omega arith, omega arith);
        }
