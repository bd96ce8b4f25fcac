-- What absorbing a recorder leaves in the tables. Assumes nothing.
use Rattle.std.specs.Prelude.{None, Some, Option, ℕ}
use mathlib.Core.Path.{◌≡◌, refl, ap}
use mathlib.Core.Bool.{Bool, true, false, ◌&&◌}
use mathlib.Core.List.{List, []}
use Prim.Native.Nat.{ℕ, ◌-◌, ◌≤◌}
use native.Mathlib.Omega.{arith}
use lib.Dec.{eqb}
use Rattle.rules.specs.declared.AreaIndex.{AreaIndex}
use Rattle.rules.specs.declared.EndState.{EndState}
use Rattle.rules.specs.declared.Mode.TheVariants.{Stopped}
use Rattle.rules.specs.declared.Recorder.{Recorder}
use Rattle.rules.specs.Tests.{is_some}
use Rattle.rules.specs.Values.{Scan, Index, count}
use Rattle.rules.specs.Values as values
use Rattle.rules.specs.Sizes.{scan_sized, sized}
use Rattle.rules.specs.Record.{Absorbed, joined, taken_malformed, absorb_number, absorbed_by, absorb, with_mode}
use Rattle.rules.specs.Merge.{further, merged_scan}
use Rattle.rules.proofs.Tests.{choose, all→, →all, and_right, each_append, each_drop}
use Rattle.laws.specs.Statements.{Savable}
use Rattle.laws.proofs.scans.Sizes.{merged_sized}
use Rattle.tables.specs.Index.{Tables, room_of, index_in, kinds_in, or_four}
use Rattle.index.proofs.Lent.{sized_in}
use Rattle.index.proofs.Standing.{stands, kinds_from}
use Rattle.tables.specs.Recorder.{RecorderTables, recorder_room, recorder_in, recorder_kinds, recorder_from}
use Rattle.absorb.specs.Absorb.{kinded_both, absorbed_out_of, absorb_in}
use Rattle.absorb.specs.Absorb as absorbing
use Rattle.tables.specs.Tables.{given_in}
use Rattle.theorems.specs.Terms.{Valid, ValidRecorder}
use Rattle.theorems.specs.TableRun.{LentIn}
use Rattle.theorems.specs.Recorders.{StandsRecorder, RecorderBytes}
use Rattle.theorems.proofs.Closure.{closure, of_each}
use Rattle.theorems.proofs.Demand1.{or_four_lemma}
use Rattle.theorems.proofs.RecordersInTables.{RecorderSized, recorder_sized, mode_back, mode_kinds, emptied_back, emptied_kinds, stands_as}

-- ---- numbers fit their types
-- frames and parts are taken as a list whose end is open takes those of a complete one
abbrev opened : Scan → Scan
opened x =
    record {
      area = x.area;
      interval = x.interval;
      budget = x.budget;
      checkpoints = x.checkpoints;
      frames = x.frames;
      parts = x.parts;
      ending = None;
      malformed = x.malformed;
    }

abbrev closed : Scan → values.Recorder → EndState → Scan
closed x r e =
    record {
      area = x.area;
      interval = x.interval;
      budget = x.budget;
      checkpoints = r.checkpoints;
      frames = r.frames;
      parts = r.parts;
      ending = Some e;
      malformed = [];
    }

joined_sized : (x : Scan) (r : values.Recorder) (ms : List ℕ) → scan_sized x ≡ true → RecorderSized r
    → scan_sized (joined x r ms) ≡ true
unfolding scan_sized merged_scan further is_some
joined_sized x r ms h z =
    let a = all→ _ h in
    let m = all→ _ (merged_sized (opened x) (closed x r (record { threshold = 0; malformed = 0 })) h
    (→all _ (a.0, (z.checkpoints, (z.held.0, (z.held.1, tt)))))) in
    let c = each_append _ x.checkpoints _ a.1.0
    (each_drop _ (count x - r.first) r.checkpoints z.checkpoints) in
    →all _ (a.0, (c, (m.1.1.0, (m.1.1.1.0, tt))))

-- ---- a number that is not 1 to 4 is that of the rules
kinded_both→ : (ok : Bool) (x : Index) (r : values.Recorder) (a : Absorbed) (n : ℕ) → (1 ≤ n → n ≤ 4 → ⊥)
    → (kinded_both ok x r a).number ≡ n → (ok ≡ true) × (a.number ≡ n)
unfolding kinded_both
kinded_both→ true x r a n h e = (refl, e)
kinded_both→ false x r a n h e =
    let b = or_four_lemma a.number in let q : or_four a.number
    ≡ n = e in let f : ⊥ = h (rw q at b.0) (rw q at b.1) in absurd f

kinded_yes : (ok : Bool) (x : Index) (r : values.Recorder) (a : Absorbed) → ok ≡ true → kinded_both ok x r a ≡ a
unfolding kinded_both
kinded_yes ok x r a e = rw e

-- ---- the call
module _ (x : AreaIndex) (t : Tables) (image : Option ℕ) (given : List ℕ) (r : Recorder) (u : RecorderTables) where
  abbrev own : Index
  own = index_in x t

  abbrev read : values.Recorder
  read = recorder_in r u

  abbrev answer : Absorbed
  answer = absorb (room_of t) own (recorder_room u) read image (given_in given)

  abbrev left : absorbing.AbsorbedOut
  left = absorb_in x t image given r u

  -- what is answered is the rules' answer, put into the tables
  pub rules_answer : (n : ℕ) → (1 ≤ n → n ≤ 4 → ⊥) → left.answer.number ≡ n
      → ((kinds_in x t && recorder_kinds r u) ≡ true) × (answer.number ≡ n) × (left ≡ absorbed_out_of t answer)
  unfolding absorb_in absorbed_out_of
  rules_answer n h e =
      let k = kinded_both→ (kinds_in x t && recorder_kinds r u) own read answer n h e
      in (k.0, k.1, ap (absorbed_out_of t) (kinded_yes (kinds_in x t && recorder_kinds r u) own read answer k.0))

  -- the recorder that it leaves stands in the recorder's tables
  recorder_left : recorder_kinds r u ≡ true → (n : ℕ) → let a = absorbed_by n own read image (given_in given) in
      (recorder_in (recorder_from a.recorder) u ≡ a.recorder) × (recorder_kinds (recorder_from a.recorder) u ≡ true)
  recorder_left k n =
      of_each (room_of t) own (recorder_room u) read image (given_in given)
      (λ a. (recorder_in (recorder_from a.recorder) u ≡ a.recorder)
      × (recorder_kinds (recorder_from a.recorder) u ≡ true)) n
      (λ e. (mode_back r u r.mode, mode_kinds r u r.mode k)) (λ e. (emptied_back read u, emptied_kinds read u))
      (choose (λ (s : values.Recorder). (recorder_in (recorder_from s) u ≡ s)
      × (recorder_kinds (recorder_from s) u ≡ true)) (eqb n 8) (with_mode read Stopped) read
      (λ e. (mode_back r u Stopped, mode_kinds r u Stopped k))
      (λ e. (mode_back r u r.mode, mode_kinds r u r.mode k)))

  recorder_of_lemma : (n : ℕ) → (1 ≤ n → n ≤ 4 → ⊥) → left.answer.number ≡ n
      → ValidRecorder (recorder_room u) answer.recorder → StandsRecorder left.answer.recorder u
  unfolding absorbed_out_of absorb
  recorder_of_lemma n h e v =
      let k = rules_answer n h e in
      let l = recorder_left (and_right (kinds_in x t) (recorder_kinds r u) k.0)
      (absorb_number (room_of t) own (recorder_room u) read image (given_in given)) in
      rw k.2 (stands_as answer.recorder (recorder_from answer.recorder) u (v.one, v.two, v.four) l.0
      l.1)

  pub stopped_left : left.answer.number ≡ 8 → StandsRecorder left.answer.recorder u
  stopped_left e =
      let h : 1 ≤ 8 → 8 ≤ 4 → ⊥ = λ a b. omega arith in
      recorder_of_lemma 8 h e (closure.stopped (room_of t) own (recorder_room u) read image (given_in given)
      (rules_answer 8 h e).1)

  -- the list that an accepted call leaves, and the recorder
  pub record AbsorbLeft : Type 0 where
    pub accepted : answer.number ≡ 0
    pub valid : Valid (room_of t) answer.index
    pub list : index_in left.answer.index left.tables ≡ answer.index
    pub kinds : kinds_in left.answer.index left.tables ≡ true
    pub recorder : StandsRecorder left.answer.recorder u

  module _ (a : LentIn x t) (b : RecorderBytes u) where
    own_sized : sized own ≡ true
    own_sized = sized_in x t a.typed a.bytes

    absorbed_sized : sized answer.index ≡ true
    unfolding absorb sized
    absorbed_sized =
        let s = all→ _ own_sized in
        of_each (room_of t) own (recorder_room u) read image (given_in given) (λ y. sized y.index ≡ true)
        (absorb_number (room_of t) own (recorder_room u) read image (given_in given))
        (λ e. own_sized) (λ e. →all _ (
          joined_sized own.scan read
              (taken_malformed own.scan read (given_in given)) s.0 (recorder_sized r u b),
          (s.1.0, (s.1.1.0, tt)),
        )) own_sized

    pub absorb_left : left.answer.number ≡ 0 → AbsorbLeft
    unfolding absorbed_out_of
    absorb_left e =
        let h : 1 ≤ 0 → 0 ≤ 4 → ⊥ = λ c d. omega arith in
        let k = rules_answer 0 h e in
        let z = k.1 in
        let c = closure.absorbed (room_of t) own (recorder_room u) read image (given_in given) z in
        let v : Savable answer.index = record
        { one = c.0.one; two = c.0.two; four = c.0.four; sizes = absorbed_sized } in
        record {
          accepted = z;
          valid = c.0;
          list = rw (k.2, z) (stands answer.index t v);
          kinds = rw (k.2, z) (kinds_from answer.index t v);
          recorder = recorder_of_lemma 0 h e c.1;
        }
