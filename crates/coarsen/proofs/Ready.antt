-- What each step of coarsening needs of the tables, where nothing refuses. Assumes nothing.
use mathlib.Core.Path.{◌≡◌, refl, ◌∙◌}
use Prim.Native.Nat.{ℕ, ◌+◌, ◌*◌, ◌/◌, ◌<◌, ◌≤◌, min}
use native.Mathlib.Nat.{div-le_self}
use native.Mathlib.Omega.{arith}
use borrow.Author.Tests.{leb-true}
use lib.ListN.{length, length-take}
use Rattle.field.specs.Records.{records}
use Rattle.field.proofs.Records.{records_length}
use Rattle.rules.specs.declared.AreaIndex.{AreaIndex}
use Rattle.rules.specs.Tests.{each}
use Rattle.rules.specs.Values.{Index, boundaries, used, max_malformed, merge_room, counted, frontier}
use Rattle.rules.specs.Questions.{scan_room, hinting_room, question3, question4}
use Rattle.rules.specs.File.{decode_checkpoint, decode_lsn, decode_confirmation}
use Rattle.rules.proofs.Tests.{all→}
use Rattle.rules_coarsen.specs.Coarse.{every_nth, coarser_scan, coarser, coarse_frontier}
use Rattle.laws.proofs.scans.Scans.{ScanIs, scan→, scan_of}
use Rattle.laws.proofs.hint_lists.Closure.{HintingIs, hinting→}
use Rattle.laws.proofs.Ranges.{boundaries_small}
use Rattle.tables.specs.Tables.{frames_of, checkpoints_in, parts_in, decode_kept}
use Rattle.tables.specs.Index.{Tables, room_in, index_in, kinds_ok}
use Rattle.index.proofs.Questions.{range, passes_long, passes_hints}
use Rattle.parts.specs.Parts.{part_tables}
use Rattle.parts.proofs.Callers.{lent_from}
use Rattle.coarsen.specs.Laws.{multiples}
use Rattle.coarsen.specs.Steps.{kept_of, Keeps, Copies, PartsHeld, counted_in, Coarsens}
use Rattle.coarsen.proofs.Every.{every_length, wide_within}
use Rattle.coarsen.proofs.Checkpoints.{kept_counted, taken_length}
use Rattle.coarsen.proofs.FortyEight.{WiderIs, wider→}
use Rattle.coarsen.proofs.Pieces.{kept_few}
use Rattle.coarsen.proofs.Asked.{four_holds, two_holds}

-- the tables of the coarser list have what question 3 wants
pub record Wide (x : AreaIndex) (k : ℕ) (u : Tables) : Type 0 where
  pub checkpoints : boundaries x.area k ≤ length u.checkpoints / 24
  pub frames : boundaries x.area k ≤ length u.frames / 8
  pub parts : boundaries x.area k ≤ length u.parts / 24
  pub store : x.budget ≤ length u.store
  pub malformed : 4096 ≤ length u.malformed / 4
  pub hints : x.most ≤ length u.hints / 8
  pub confirmed : x.most ≤ length u.confirmed / 16

module _ {x : AreaIndex} {t : Tables} {k : ℕ} {u : Tables} (j : Coarsens x t k u) where
  abbrev fine : Index
  fine = index_in x t

  abbrev r : ℕ
  r = k / x.interval

  pub wider : WiderIs x.interval k
  wider = wider→ k fine (two_holds x t j.passes) j.multiple

  pub scan_is : ScanIs fine.scan
  scan_is = scan→ fine.scan (scan_of fine (four_holds x t j.passes))

  hinting_is : HintingIs x.area x.fingerprint fine.hinting
  unfolding question4
  hinting_is = hinting→ x.area x.fingerprint fine.hinting (all→ _ (four_holds x t j.passes)).1.0

  pub wide : Wide x k u
  unfolding question3 scan_room hinting_room coarser coarser_scan
  wide =
      let h = all→ _ j.room in let s = all→ _ h.0 in let m = all→ _ h.1.1.0 in
      let a : x.most + merge_room ≤ length u.hints / 8 = leb-true _ _ m.0 in let b : x.most + 1 ≤ length u.confirmed / 16 = leb-true _ _ m.1.0 in
      record {
        checkpoints = leb-true _ _ s.0;
        frames = leb-true _ _ s.1.0;
        parts = leb-true _ _ s.1.1.0;
        store = leb-true _ _ s.1.1.1.0;
        malformed = leb-true _ _ h.1.0;
        hints = omega arith;
        confirmed = omega arith;
      }

  pub keeps : {m : ℕ} → m ≡ kept_of x.checkpoints r → Keeps x.checkpoints m r t.checkpoints
  keeps e = record { there = (passes_long j.passes).checkpoints; ratio = wider.ratio; kept = e }

  kept_is : length (every_nth r (checkpoints_in x.checkpoints t.checkpoints)) ≡ kept_of x.checkpoints r
  kept_is = every_length r wider.ratio _ ∙ rw (records_length 24 decode_checkpoint x.checkpoints t.checkpoints)

  few_kept : kept_of x.checkpoints r ≤ boundaries x.area k
  few_kept =
      let w = wide_within x.area x.interval r k wider.old wider.ratio wider.is fine.scan.checkpoints (let s = scan_is.stretch.within in omega arith) in
      let e = kept_is in omega arith

  few_boundaries : boundaries x.area k < 4294967296
  few_boundaries =
      let a = range x.area j.passes.roomy.area in let e = a.end in
      let b = boundaries_small x.area k wider.low in
      omega arith

  pub copies : {m : ℕ} → m ≡ kept_of x.checkpoints r → Copies x.checkpoints m r t.checkpoints u.checkpoints
  copies {m} e =
      let w = wide.checkpoints in let f = few_kept in let h = wider.high in let d = div-le_self k x.interval in
      record { keeps = keeps e; wide = omega arith; space = omega arith }

  few_parts : length (multiples r (parts_in x.parts t.parts)) ≤ boundaries x.area k
  few_parts = let f = kept_few fine.scan r (scan_of fine (four_holds x t j.passes)) wider.ratio in let e = kept_is in let g = few_kept in omega arith

  store_room : x.budget ≤ length t.store
  unfolding room_in question3 scan_room
  store_room = leb-true _ _ (all→ _ (all→ _ j.passes.roomy.room).0).1.1.1.0

  pub holds : PartsHeld x.budget r x.frames x.parts (part_tables t.frames t.store t.parts) (part_tables u.frames u.store u.parts)
  unfolding used records frames_of kinds_ok each
  holds =
      let l = passes_long j.passes in let f = few_parts in let b = few_boundaries in
      let wf = wide.frames in let wp = wide.parts in let ws = wide.store in
      record {
        ratio = wider.ratio;
        lent = lent_from x.frames x.parts (part_tables t.frames t.store t.parts) scan_is.stretch.held l.frames l.parts (store_room);
        room =
            record {
              ready = record { frames = omega arith; parts = omega arith; store = ws; bytes = refl; fits = omega arith; some = λ z. omega arith };
              kinds = refl;
              frames = omega arith;
              parts = omega arith;
              few = (omega arith, omega arith);
            };
      }

  -- ---- malformed LSNs, hints and confirmations
  fewer : counted_in x r t.checkpoints ≤ counted fine.scan.checkpoints fine.scan.ending
  fewer = kept_counted x.interval r k wider.ratio wider.is fine.scan.checkpoints scan_is.stretch.checkpoints fine.scan.ending

  pub taken_few : min (counted_in x r t.checkpoints) max_malformed ≤ x.malformed
  taken_few =
      let e = taken_length x.area (frontier fine.scan) (coarse_frontier k fine.scan) (counted fine.scan.checkpoints fine.scan.ending) (counted_in x r t.checkpoints) fine.scan.malformed scan_is.malformed fewer in
      let n = records_length 4 decode_lsn x.malformed t.malformed in
      omega (arith, length-take (min (counted_in x r t.checkpoints) max_malformed) fine.scan.malformed)

  pub takes : {c m : ℕ} → c ≡ counted_in x r t.checkpoints → m ≡ min c 4096 → (m * 4 ≤ length t.malformed) × (m * 4 ≤ length u.malformed)
  takes {c} {m} e f =
      let g = taken_few in let l = (passes_long j.passes).malformed in let w = wide.malformed in
      let q : m ≡ min (counted_in x r t.checkpoints) 4096 = f ∙ rw e in
      (omega arith, omega arith)

  pub hints_there : (x.hints * 8 ≤ length t.hints) × (x.hints * 8 ≤ length u.hints)
  hints_there =
      let h = hinting_is.few in let l = (passes_hints j.passes).hints in let w = wide.hints in let n = records_length 8 decode_kept x.hints t.hints in
      (l, omega arith)

  pub confirmed_there : (x.confirmed * 16 ≤ length t.confirmed) × (x.confirmed * 16 ≤ length u.confirmed)
  confirmed_there =
      let h = hinting_is.fewer in let l = (passes_hints j.passes).confirmed in let w = wide.confirmed in let n = records_length 16 decode_confirmation x.confirmed t.confirmed in
      (l, omega arith)
