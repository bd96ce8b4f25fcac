-- A recorder in its tables: its numbers fit their types, and put into the tables it stands there. Assumes nothing.
use Rattle.std.specs.Prelude.{Option, None, Some}
use mathlib.Core.Path.{◌≡◌, refl, sym, ap, subst, ◌∙◌}
use mathlib.Core.Bool.{true}
use mathlib.Core.List.{List, []}
use Prim.Native.Nat.{ℕ, ◌-◌, ◌/◌, ◌≤◌}
use native.Mathlib.Omega.{arith}
use borrow.Author.Tests.{le-leb, lt-ltb, ltb-true}
use lib.Dec.{leb, ltb}
use lib.ListN.{length}
use Rattle.field.specs.Records.{Bytes, records}
use Rattle.field.proofs.Format.{Each, each_at, records_bytes}
use Rattle.field.proofs.Records.{records_length}
use Rattle.fnv.specs.Fnv.{fnv64, basis64}
use Rattle.short_sum.proofs.Facts.{at_both}
use Rattle.rules.specs.declared.Area.{Area}
use Rattle.rules.specs.declared.AreaIndex.{AreaIndex}
use Rattle.rules.specs.declared.EndState.{EndState}
use Rattle.rules.specs.declared.Fingerprint.TheVariants.{Unknown}
use Rattle.rules.specs.declared.HintRecorder.{HintRecorder}
use Rattle.rules.specs.declared.Mode.{Mode}
use Rattle.rules.specs.declared.Mode.TheVariants.{Finished}
use Rattle.rules.specs.declared.Recorder.{Recorder}
use Rattle.rules.specs.Tests.{each, Answer, Refused, Accepted, first_no}
use Rattle.rules.specs.Values as values
use Rattle.rules.specs.Values.{max64, max_frame, max_list, no_frame, replay_sectors, frame_at, stated}
use Rattle.rules.specs.Sections.{begun, unfilled, checkpoints_ok, frames_ok, part_ok}
use Rattle.rules.specs.Questions.{four, recorder_question1, recorder_question2}
use Rattle.rules.specs.Sizes.{known_sized}
use Rattle.rules.specs.Create.{empty_recorder, recorder, hint_recorder}
use Rattle.rules.specs.Record.{stored_of, assembled, recorded, record_at, with_mode, finish, emptied}
use Rattle.rules.specs.Hints.{take_list}
use Rattle.rules.specs.Hints as rules
use Rattle.rules.specs.File.{decode_checkpoint, decode_held, decode_hint}
use Rattle.rules.proofs.Tests.{choose, each_none, each_cons, each_append, each_of, each→, →each, each_map, each_both, accepted→}
use Rattle.rules.proofs.Walk.{walk_each}
use Rattle.laws.specs.Kept.{Sound}
use Rattle.laws.proofs.Facts.{numbers_ok→, SizeFacts, sized→}
use Rattle.laws.proofs.Layouts.{CheckpointFits, HeldFits, checkpoint_layout}
use Rattle.laws.proofs.Ranges.{AreaFacts, area_ok→, boundaries_small, checkpoints_fit, Placed, frames_placed, frames_fit}
use Rattle.laws.proofs.scans.Parts.{keep, part→, held_counts}
use Rattle.laws.proofs.scans.Record.{recorder_sound, record_sound, finish_sound}
use Rattle.laws.proofs.scans.Scans.{RecorderIs, recorder→}
use Rattle.laws.proofs.scans.Sizes.{HeldSized, add_part_sized}
use Rattle.tables.specs.Tables.{decode_header, headers_in, frames_of}
use Rattle.tables.proofs.Frames.{frames_length}
use Rattle.tables.specs.Index.{Tables, room_of, index_in, kinds_ok, kinds_in, kinded}
use Rattle.index.proofs.Back.{FrameFits, frames_back}
use Rattle.index.proofs.Lent.{sized_in}
use Rattle.index.proofs.Standing.{held_records, kinds_held}
use Rattle.tables.specs.Recorder.{RecorderTables, recorder_room, recorder_in, recorder_kinds, recorder_from, recorder_over, assembling_in}
use Rattle.recorder.specs.Recorder.{recorder_of, started_in, finished_in, RecorderOut, recorder_out, record_out, record_in}
use Rattle.rules.specs.declared.SeenSector.{SeenSector}
use Rattle.rules.specs.declared.TakenList.{TakenList}
use Rattle.rules.specs.declared.Assembling as under
use Rattle.hint_recorder.specs.HintRecorder.{created_in, see_in, flush_in, take_in}
use Rattle.hint_recorder.specs.HintRecorder as hinting
use Rattle.tables.specs.HintRecorder.{hint_recorder_from, hint_recorder_in}
use Rattle.theorems.specs.Recorders.{StandsRecorder, RecorderBytes, SignedIn, StandsHintRecorder}
use Rattle.theorems.proofs.Closure.{closure}
use Rattle.theorems.proofs.MergeInTables.{kinded→}

-- ---- numbers fit their types
-- digests of 64 bits, bytes, and a signed remaining of 32
pub record RecorderSized (r : values.Recorder) : Type 0 where
  pub checkpoints : each (λ c. leb c.digest max64) r.checkpoints ≡ true
  pub held : HeldSized (stored_of r)

-- the numbers and tables of a recorder, as those of an index
abbrev no_area : Area
no_area = record { key = record { slot = 0; start = 0; end = 0; channels = 0; sectors = 0 }; start = 0; end = 0 }

abbrev as_index : Recorder → AreaIndex
as_index r =
    record {
      area = no_area;
      interval = 0;
      budget = 0;
      spacing = 0;
      most = 0;
      checkpoints = r.checkpoints;
      frames = r.frames;
      parts = r.parts;
      malformed = 0;
      hints = 0;
      confirmed = 0;
      ending = None;
      fingerprint = Unknown;
      image = None;
    }

abbrev as_tables : RecorderTables → Tables
as_tables u = record {
  checkpoints = u.checkpoints;
  frames = u.frames;
  store = u.store;
  parts = u.parts;
  malformed = [];
  hints = [];
  confirmed = [];
}

no_bytes : Bytes []
no_bytes i = omega arith

-- in tables of bytes
pub recorder_sized : (r : Recorder) (u : RecorderTables) → RecorderBytes u → RecorderSized (recorder_in r u)
unfolding known_sized stated
recorder_sized r u b =
    let f : SizeFacts (index_in (as_index r) (as_tables u)) =
    sized→ _
    (sized_in (as_index r) (as_tables u) (record {
      start = omega arith;
      end = omega arith;
      channels = omega arith;
      sectors = omega arith;
      spacing = omega arith;
      fingerprint = refl;
    })
    (record {
      checkpoints = b.checkpoints;
      frames = b.frames;
      store = b.store;
      parts = b.parts;
      malformed = no_bytes;
      hints = no_bytes;
      confirmed = no_bytes;
    })) in
    record { checkpoints = →each _ f.checkpoints; held = (→each _ f.frames, →each _ f.parts) }

-- a digest
sum_small : (s : List ℕ) → fnv64 s ≤ max64
sum_small s = let b = at_both.at64.below basis64 s (omega arith) in omega arith

assembled_sized : (r : values.Recorder) (lsn : ℕ) (f : Option under.Assembling) (b : List ℕ) → SignedIn f → Bytes b
    → HeldSized (stored_of r) → HeldSized (assembled r lsn (assembling_in f b))
unfolding assembled assembling_in
assembled_sized r lsn None b s g h = h
assembled_sized r lsn (Some a) b s g h =
    choose HeldSized (ltb replay_sectors (lsn - a.start)) _ (stored_of r)
    (λ e. add_part_sized r.budget (stored_of r) _ h (each_of (λ v. ltb v 256) 0 b (λ i l. lt-ltb _ 256 (g i)))
    (lt-ltb _ 2147483648 s)) (λ e. h)

pub recorded_sized : (r : values.Recorder) (lsn threshold malformed : ℕ) (f : Option under.Assembling) (b sector : List ℕ)
    → SignedIn f → Bytes b → RecorderSized r
    → RecorderSized (recorded r lsn threshold malformed (assembling_in f b) sector)
recorded_sized r lsn threshold malformed f b sector s g z =
    record {
      checkpoints = each_append _ r.checkpoints _ z.checkpoints
          (each_cons _ _ [] (le-leb (fnv64 sector) max64 (sum_small sector)) (each_none _));
      held = assembled_sized r lsn f b s g z.held;
    }

-- ---- a recorder put into its tables
module _ (r : values.Recorder) (s : Sound r) (z : RecorderSized r) where
  is : RecorderIs r
  is = recorder→ r s.2

  area_is : AreaFacts r.area
  unfolding recorder_question1
  area_is = area_ok→ r.area s.0

  interval_is : 1 ≤ r.interval
  unfolding recorder_question2
  interval_is = (numbers_ok→ r.interval r.budget s.1).low

  checkpoints_fits : Each CheckpointFits r.checkpoints
  unfolding checkpoints_ok
  checkpoints_fits = checkpoints_fit r.area r.interval interval_is area_is (begun r.first) r.checkpoints
      is.within is.checkpoints (each→ _ _ z.checkpoints)

  frames_in : Each (Placed r.area) r.frames
  unfolding frames_ok
  frames_in = frames_placed r.area r.budget (unfilled r.area) r.frames is.held.frames

  headers_fits : Each FrameFits r.frames
  headers_fits = each_map (λ f p. p.numbers) (frames_fit r.area r.frames area_is frames_in
      (each→ _ _ z.held.0))

  parts_fits : Each HeldFits r.parts
  parts_fits =
      let b = boundaries_small r.area r.interval interval_is in
      let w = is.within in
      let a = area_is in
      let n = held_counts _ _ _ _ _ _ _ is.held in
      let fs = n.0 in
      let ps = n.1 in
      each_both (λ p q v. record { numbers = q; signed = ltb-true _ _ v })
      (walk_each (part_ok r.area r.interval r.first r.checkpoints r.frames) keep
      (λ o p q. let i = (part→ r.area r.interval r.first r.checkpoints r.frames o p q).0 in
      let l : length (frame_at r.frames p.frame).bytes ≤ max_frame = each_at
      {P = λ f. length f.bytes ≤ max_frame} p.frame no_frame (each_map (λ f g. g.size) frames_in) (omega arith)
      in
      omega arith) None r.parts is.held.parts) (each→ _ _ z.held.1)

  -- it stands there, and its kinds are 0 or 1
  pub recorder_stands : (u : RecorderTables) → recorder_in (recorder_from r) (recorder_over r u) ≡ r
  recorder_stands u = rw (
    records_bytes checkpoint_layout _ checkpoints_fits,
    frames_back _ _ headers_fits,
    held_records _ parts_fits,
  )

  pub recorder_kinds_lemma : (u : RecorderTables) → recorder_kinds (recorder_from r) (recorder_over r u) ≡ true
  recorder_kinds_lemma u = kinds_held _ parts_fits

-- ---- what stands in the tables that are not written
pub mode_back : (r : Recorder) (u : RecorderTables) (m : Mode)
    → recorder_in (recorder_from (with_mode (recorder_in r u) m)) u ≡ with_mode (recorder_in r u) m
mode_back r u m =
    rw (
      records_length 24 decode_checkpoint r.checkpoints u.checkpoints,
      frames_length (headers_in r.frames u.frames) u.store,
      records_length 8 decode_header r.frames u.frames,
      records_length 24 decode_held r.parts u.parts,
    )

pub mode_kinds : (r : Recorder) (u : RecorderTables) (m : Mode) → recorder_kinds r u ≡ true
    → recorder_kinds (recorder_from (with_mode (recorder_in r u) m)) u ≡ true
mode_kinds r u m k = rw (records_length 24 decode_held r.parts u.parts) k

-- nothing
pub emptied_back : (r : values.Recorder) (u : RecorderTables) → recorder_in (recorder_from (emptied r)) u ≡ emptied r
unfolding records frames_of
emptied_back r u = refl

pub emptied_kinds : (r : values.Recorder) (u : RecorderTables) → recorder_kinds (recorder_from (emptied r)) u ≡ true
unfolding kinds_ok records each
emptied_kinds r u = refl

-- ---- 1, 2 and 4 are those of the value
pub stands_as : (v : values.Recorder) (r : Recorder) (u : RecorderTables) → Sound v → recorder_in r u ≡ v
    → recorder_kinds r u ≡ true → StandsRecorder r u
stands_as v r u s e k =
    let t : Sound (recorder_in r u) = subst (λ (w : values.Recorder). Sound w) (sym e) s in
    record { one = t.0; two = t.1; four = t.2; kinds = k }

-- ---- recorder, record, finish
numbers→ : (a : Answer values.Recorder) (n : Recorder) → recorder_of a ≡ Accepted n → (v : values.Recorder)
    × (a ≡ Accepted v) × (recorder_from v ≡ n)
unfolding recorder_of
numbers→ (Refused m) n e = let z : ◌≡◌ {A = ℕ} 0 1 = cc in let f : ⊥ = omega arith in absurd f
numbers→ (Accepted v) n e = (v, refl, cc)

tables→ : (u : RecorderTables) (a : Answer values.Recorder) (n : Recorder) (u' : RecorderTables) → record_out u a
    ≡ recorder_out (Accepted n) u'
    → (v : values.Recorder) × (a ≡ Accepted v) × (recorder_from v ≡ n) × (recorder_over v u ≡ u')
unfolding record_out
tables→ u (Refused m) n u' e = let a = ap (λ (o : RecorderOut). o.answer) e in let z : ◌≡◌ {A = ℕ} 0 1 = cc
    in let f : ⊥ = omega arith in absurd f
tables→ u (Accepted v) n u' e =
    let a : Accepted (recorder_from v)
    ≡ Accepted n = ap (λ (o : RecorderOut). o.answer) e
    in (v, refl, cc, ap (λ (o : RecorderOut). o.tables) e)

pub started_stands : (x : AreaIndex) (t : Tables) (from : ℕ) (r : Recorder) (u : RecorderTables) → started_in x t from
    ≡ Accepted r → StandsRecorder r u
unfolding started_in recorder records frames_of kinds_ok each
started_stands x t from r u e =
    let i = index_in x t in
    let n = numbers→ (kinded (kinds_in x t) (recorder (room_of t) i from)) r e in
    let d = kinded→ (kinds_in x t) (recorder (room_of t) i from) n.0 n.1 in
    let v = empty_recorder i.scan from in
    let q : v ≡ n.0 = (accepted→ (first_no (four (room_of t) i [])) v n.0 d.1).1 in
    let s : Sound v = subst (λ (w : values.Recorder). Sound w) (sym q)
    (recorder_sound (room_of t) i from n.0 d.1) in
    subst (λ (w : Recorder). StandsRecorder w u) (ap (λ (w : values.Recorder). recorder_from w) q ∙ n.2)
    (stands_as v (recorder_from v) u s refl refl)

pub recorded_stands : (r : Recorder) (u : RecorderTables) (lsn threshold malformed : ℕ) (f : Option under.Assembling)
    (b sector : List ℕ) (s : Recorder) (u' : RecorderTables)
    → RecorderBytes u → SignedIn f → Bytes b → record_in r u lsn threshold malformed f b sector
    ≡ recorder_out (Accepted s) u' → StandsRecorder s u'
unfolding record_in record_at
recorded_stands r u lsn threshold malformed f b sector s u' g h k e =
    let w = recorder_in r u in
    let a = record_at (recorder_room u) w lsn threshold malformed (assembling_in f b) sector in
    let n = tables→ u (kinded (recorder_kinds r u) a) s u' e in
    let d = kinded→ (recorder_kinds r u) a n.0 n.1 in
    let v = recorded w lsn threshold malformed (assembling_in f b) sector in
    let q : v ≡ n.0 = (accepted→ _ v n.0 d.1).1 in
    let z : RecorderSized n.0 = subst (λ (y : values.Recorder). RecorderSized y) q
    (recorded_sized w lsn threshold malformed f b sector h k (recorder_sized r u g)) in
    let t : Sound n.0 = record_sound (recorder_room u) w lsn threshold malformed (assembling_in f b) sector n.0
    d.1 in
    subst (λ (y : Recorder). StandsRecorder y u') n.2
    (subst (λ (y : RecorderTables). StandsRecorder (recorder_from n.0) y) n.3
    (stands_as n.0 (recorder_from n.0) (recorder_over n.0 u) t (recorder_stands n.0 t z u)
    (recorder_kinds_lemma n.0 t z u)))

pub finished_stands : (r : Recorder) (u : RecorderTables) (e : EndState) (s : Recorder) → finished_in r u e
    ≡ Accepted s → StandsRecorder s u
unfolding finished_in finish
finished_stands r u e s h =
    let w = recorder_in r u in
    let n = numbers→ (kinded (recorder_kinds r u) (finish (recorder_room u) w e)) s h in
    let d = kinded→ (recorder_kinds r u) (finish (recorder_room u) w e) n.0 n.1 in
    let v = with_mode w (Finished e) in
    let q : v ≡ n.0 = (accepted→ _ v n.0 d.1).1 in
    let t : Sound v = subst (λ (y : values.Recorder). Sound y) (sym q)
    (finish_sound (recorder_room u) w e n.0 d.1) in
    subst (λ (y : Recorder). StandsRecorder y u) (ap (λ (y : values.Recorder). recorder_from y) q ∙ n.2)
    (stands_as v (recorder_from v) u t (mode_back r u (Finished e)) (mode_kinds r u (Finished e) d.0))

-- ---- hint recorders
hints_stand : (v : values.HintRecorder) (s : HintRecorder) (t : List ℕ) → length v.list ≤ max_list
    → hint_recorder_from v ≡ s → StandsHintRecorder s t
hints_stand v s t l e = subst (λ (r : HintRecorder). StandsHintRecorder r t) e
    (rw (records_length 8 decode_hint (length v.list) t) l)

seen→ : (t : List ℕ) (a : Answer values.HintRecorder) (s : HintRecorder) (t' : List ℕ) → hinting.seen_out_of t a
    ≡ hinting.seen_out (Accepted s) t'
    → (v : values.HintRecorder) × (a ≡ Accepted v) × (hint_recorder_from v ≡ s)
unfolding hinting.seen_out_of
seen→ t (Refused n) s t' e = let a = ap (λ (o : hinting.SeenOut). o.answer) e in let z : ◌≡◌ {A = ℕ} 0 1 = cc
    in let f : ⊥ = omega arith in absurd f
seen→ t (Accepted v) s t' e = let a : Accepted (hint_recorder_from v)
    ≡ Accepted s = ap (λ (o : hinting.SeenOut). o.answer) e in (v, refl, cc)

saw→ : (t : List ℕ) (a : Answer rules.SeenSector) (s : SeenSector) (t' : List ℕ) → hinting.saw_out_of t a
    ≡ hinting.saw_out (Accepted s) t'
    → (v : rules.SeenSector) × (a ≡ Accepted v) × (hint_recorder_from v.recorder ≡ s.recorder)
unfolding hinting.saw_out_of
saw→ t (Refused n) s t' e = let a = ap (λ (o : hinting.SawOut). o.answer) e in let z : ◌≡◌ {A = ℕ} 0 1 = cc
    in let f : ⊥ = omega arith in absurd f
saw→ t (Accepted v) s t' e =
    let a : Accepted (record { first = v.first; recorder = hint_recorder_from v.recorder })
    ≡ Accepted s = ap (λ (o : hinting.SawOut). o.answer) e in
    let q : record { first = v.first; recorder = hint_recorder_from v.recorder } ≡ s = cc in
    (v, refl, ap (λ (x : SeenSector). x.recorder) q)

pub seen_stands : (r : HintRecorder) (t : List ℕ) (lsn : ℕ) (sector : List ℕ) (s : SeenSector) (t' : List ℕ)
    → see_in r t lsn sector ≡ hinting.saw_out (Accepted s) t' → StandsHintRecorder s.recorder t'
unfolding see_in
seen_stands r t lsn sector s t' e =
    let n = saw→ t _ s t' e in
    hints_stand n.0.recorder s.recorder t'
    (closure.seen (length t / 8) (hint_recorder_in r t) lsn sector n.0 n.1).four n.2

pub flushed_stands : (r : HintRecorder) (t : List ℕ) (s : HintRecorder) (t' : List ℕ) → flush_in r t
    ≡ hinting.seen_out (Accepted s) t' → StandsHintRecorder s t'
unfolding flush_in
flushed_stands r t s t' e =
    let n = seen→ t _ s t' e in hints_stand n.0 s t'
    (closure.flushed (length t / 8) (hint_recorder_in r t) n.0 n.1).four n.2

created→ : (a : Answer (Option values.HintRecorder)) (r : HintRecorder) → hinting.created_from a ≡ Accepted (Some r)
    → (v : values.HintRecorder) × (a ≡ Accepted (Some v)) × (hint_recorder_from v ≡ r)
unfolding hinting.created_from
created→ (Refused n) r e = let z : ◌≡◌ {A = ℕ} 0 1 = cc in let f : ⊥ = omega arith in absurd f
created→ (Accepted None) r e = let z : ◌≡◌ {A = ℕ} 0 1 = cc in let f : ⊥ = omega arith in absurd f
created→ (Accepted (Some v)) r e = (v, refl, cc)

pub created_stands : (x : AreaIndex) (t : Tables) (r : HintRecorder) (t' : List ℕ) → created_in x t
    ≡ Accepted (Some r) → StandsHintRecorder r t'
unfolding created_in
created_stands x t r t' e =
    let n = created→ (kinded (kinds_in x t) (hint_recorder (room_of t) (index_in x t))) r e in
    let d = kinded→ (kinds_in x t) (hint_recorder (room_of t) (index_in x t)) (Some n.0) n.1 in
    hints_stand n.0 r t' (closure.hint_recording (room_of t) (index_in x t) n.0 d.1).four n.2

taken→ : (a : Answer rules.TakenHints) (k : TakenList) → hinting.taken_from a ≡ Accepted k
    → (v : rules.TakenHints) × (a ≡ Accepted v) × (hint_recorder_from v.recorder ≡ k.recorder)
unfolding hinting.taken_from
taken→ (Refused n) k e = let z : ◌≡◌ {A = ℕ} 0 1 = cc in let f : ⊥ = omega arith in absurd f
taken→ (Accepted v) k e =
    let q : record { count = length v.list; recorder = hint_recorder_from v.recorder }
    ≡ k = cc in (v, refl, ap (λ (l : TakenList). l.recorder) q)

pub taken_stands : (r : HintRecorder) (t : List ℕ) (k : TakenList) → take_in r t ≡ Accepted k
    → StandsHintRecorder k.recorder t
unfolding take_in
taken_stands r t k e =
    let n = taken→ (take_list (length t / 8) (hint_recorder_in r t)) k e in
    hints_stand n.0.recorder k.recorder t
    (closure.taken (length t / 8) (hint_recorder_in r t) n.0 n.1).four n.2
