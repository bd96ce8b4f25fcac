-- What each step of an absorb needs of the tables, where nothing refuses. Assumes nothing.
use mathlib.Core.Path.{◌≡◌, refl, ap₂}
use mathlib.Core.List.{List, [], ◌∷◌}
use Prim.Native.Nat.{ℕ, ◌+◌, ◌-◌, ◌*◌, ◌≤◌}
use native.Mathlib.Omega.{arith}
use lib.Dec.{ltb, leb}
use lib.ListN.{length}
use borrow.Author.Tests.{leb-true, leb-false, eqb-true, ltb-true, ltb-false}
use Rattle.field.proofs.Records.{records_length}
use Rattle.rules.specs.declared.AreaIndex.{AreaIndex}
use Rattle.rules.specs.declared.Held.{Held}
use Rattle.rules.specs.declared.Recorder.{Recorder}
use Rattle.rules.specs.Values.{max_malformed, boundaries}
use Rattle.rules.specs.Questions.{recorder_question4, scan_room}
use Rattle.rules.specs.Record.{question9}
use Rattle.rules.specs.File.{decode_checkpoint}
use Rattle.rules.proofs.Tests.{test, and_left, all→}
use Rattle.rules.proofs.Same.{same_area_eq}
use Rattle.laws.proofs.scans.Scans.{RecorderIs, recorder→}
use Rattle.tables.specs.Tables.{parts_in}
use Rattle.index.specs.Index.{scan_space}
use Rattle.index.proofs.Questions.{space, passes_long, passes_kinds}
use Rattle.merge.proofs.questions.Ready.{scan_is, store_room, few_boundaries, few_checkpoints}
use Rattle.parts.specs.Parts.{PartTables, part_tables}
use Rattle.parts.specs.Steps.{wanted}
use Rattle.parts.proofs.Callers.{lent_from, wanted_from, room_from}
use Rattle.tables.specs.Recorder.{RecorderTables, recorder_in, recorder_kinds}
use Rattle.recorder.specs.Steps.{recorder_held}
use Rattle.recorder.specs.Steps as recorder
use Rattle.recorder.proofs.Calls.{passes_roomy, passes_held, passes_long as recorder-long}
use Rattle.absorb.specs.Steps.{nine_in, AbsorbReady}
use Rattle.merge.specs.Steps.{Appends, PartsReady}

-- fewer parts are for later checkpoints
wanted_fewer : (a b : ℕ) (ps : List Held) → a ≤ b → wanted b ps ≤ wanted a ps
unfolding wanted
wanted_fewer a b [] h = omega arith
wanted_fewer a b (p ∷ ps) h =
    let r = wanted_fewer a b ps h in
    test (ltb p.at b) (λ e. test (ltb p.at a) (λ f. rw (e, f) r) (λ f. rw (e, f) (omega arith)))
    (λ e. let g = ltb-false p.at b e in
    test (ltb p.at a) (λ f. let k = ltb-true p.at a f in let z : ⊥ = omega arith in absurd z) (λ f. rw (e, f) (omega arith)))

module _ {x : AreaIndex} {cs fs st ps ls : List ℕ} {r : Recorder} {u : RecorderTables} {ms : List ℕ} (k : AbsorbReady x cs fs st ps ls r u ms) where
  -- ---- the recorder
  recorder_ok : RecorderIs (recorder_in r u)
  unfolding recorder_held
  recorder_ok = recorder→ (recorder_in r u) (and_left (recorder_question4 (recorder_in r u)) (recorder_kinds r u) (passes_held r u refl k.recorder))

  their_long : recorder.Long r u.checkpoints u.frames u.parts
  their_long = recorder-long r u refl k.recorder

  their_store : r.budget ≤ length u.store
  unfolding scan_space scan_room
  their_store = leb-true _ _ (all→ _ (passes_roomy r u refl k.recorder).room).1.1.1.0

  areas : x.area ≡ r.area
  unfolding nine_in question9
  areas = same_area_eq x.area r.area (all→ _ k.same).0

  intervals : x.interval ≡ r.interval
  unfolding nine_in question9
  intervals = eqb-true x.interval r.interval (all→ _ k.same).1.0

  their_few : r.first + r.checkpoints ≤ boundaries x.area x.interval
  their_few =
      let w = recorder_ok.within in let n = records_length 24 decode_checkpoint r.checkpoints u.checkpoints in
      let b = ap₂ boundaries areas intervals in omega arith

  -- ---- what the steps need
  pub appends : Appends x.checkpoints r.checkpoints (x.checkpoints - r.first) cs u.checkpoints
  appends =
      let o = few_checkpoints k.own in let f = their_few in let j = k.joins in let b = few_boundaries k.own in
      let s = (space k.own.roomy).checkpoints in
      record { own = (passes_long k.own).checkpoints; other = their_long.checkpoints; room = omega arith; few = omega arith }

  abbrev own_tables : PartTables
  own_tables = part_tables fs st ps

  abbrev their_tables : PartTables
  their_tables = part_tables u.frames u.store u.parts

  -- as many parts as checkpoints are appended, at most
  wanted_few : x.checkpoints + wanted x.checkpoints (parts_in r.parts u.parts) ≤ boundaries x.area x.interval
  wanted_few =
      let o = few_checkpoints k.own in let f = their_few in
      let n = records_length 24 decode_checkpoint r.checkpoints u.checkpoints in
      let w = wanted_from r.frames r.parts their_tables recorder_ok.held in
      test (leb x.checkpoints (r.first + r.checkpoints))
      (λ e. let h = leb-true x.checkpoints (r.first + r.checkpoints) e in let z = w x.checkpoints (omega arith) in omega arith)
      (λ e. let h = leb-false x.checkpoints (r.first + r.checkpoints) e in
      let z = w (r.first + r.checkpoints) (omega arith) in
      let y = wanted_fewer (r.first + r.checkpoints) x.checkpoints (parts_in r.parts u.parts) (omega arith) in omega arith)

  pub parts_ready : PartsReady x r.frames r.parts own_tables their_tables
  parts_ready =
      record {
        own = (passes_long k.own).frames;
        lent = lent_from r.frames r.parts their_tables recorder_ok.held their_long.frames their_long.parts their_store;
        room = λ c ef eh eu.
            let s = space k.own.roomy in let sf = s.frames in let sp = s.parts in
            let n = records_length 24 decode_checkpoint x.checkpoints cs in let w = wanted_few in
            room_from x.frames x.parts own_tables (scan_is k.own).stretch.held {c = c} _ (boundaries x.area x.interval) ef eh eu (passes_kinds k.own)
            (omega arith) (omega arith) (omega arith) (store_room k.own) (few_boundaries k.own);
      }

  pub own_malformed : (x.malformed * 4 ≤ length ls) × (max_malformed * 4 ≤ length ls)
  own_malformed = let m = (space k.own.roomy).malformed in ((passes_long k.own).malformed, omega arith)
