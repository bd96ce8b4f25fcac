-- What record answers, by the numbers that refuse, and the tables afterwards. Assumes nothing.
use Rattle.std.specs.Prelude.{Option, None, Some}
use mathlib.Core.Path.{◌≡◌, refl, sym, ap, ◌∙◌}
use mathlib.Core.Bool.{true, ◌&&◌, cond, and-true}
use mathlib.Core.List.{List, [], ◌∷◌, ◌++◌}
use Prim.Native.Nat.{ℕ, ◌+◌, ◌*◌, ◌/◌, ◌<◌, ◌≤◌}
use native.Mathlib.Omega.{arith}
use borrow.Author.Tests.{eq-eqb, ne_eqb, eqb-true, eqb-false, leb-true, ltb-true}
use lib.Dec.{eqb, ltb}
use lib.ListN.{length}
use lib.Seq.{sets}
use Rattle.field.specs.Records.{bytes_of, Bytes}
use Rattle.field.proofs.Records.{records_length}
use Rattle.field.proofs.Format.{bytes_of_append, bytes_of_one, bytes_records}
use Rattle.fnv.specs.Fnv.{fnv64}
use Rattle.rules.specs.declared.Checkpoint.{Checkpoint}
use Rattle.rules.specs.declared.Recorder.{Recorder}
use Rattle.rules.specs.Tests.{all, each, Ask, ask, first_no, Accepted, after, Refused}
use Rattle.rules.specs.Values.{lsn_of, boundaries, last_checkpoint, used}
use Rattle.rules.specs.Values as values
use Rattle.rules.specs.Questions.{recorder_four_of, recorder_question4, scan_room}
use Rattle.rules.specs.Record.{Assembling, is_running, question5, question6, question7, back_of, assembled, recorded, record_at}
use Rattle.rules.specs.File.{decode_checkpoint, encode_checkpoint, over}
use Rattle.rules.proofs.Tests.{test, asked, and_left, and_right}
use Rattle.rules.proofs.Walk.{length_snoc}
use Rattle.laws.proofs.scans.Scans.{boundary_in, recorder→}
use Rattle.laws.proofs.scans.Record.{interval_pos}
use Rattle.laws.proofs.Layouts.{checkpoint_layout}
use Rattle.laws.proofs.Ranges.{boundaries_small}
use Rattle.index.specs.Index.{scan_space}
use Rattle.index.proofs.Four.{kinded_more}
use Rattle.index.proofs.Numbers.{test as indexed}
use Rattle.index.proofs.Questions.{range}
use Rattle.parts.specs.declared.Counts.{Counts}
use Rattle.parts.specs.Parts.{PartTables, part_tables, stored_in, counts_of, stored_over, Held, held, held_from}
use Rattle.parts.specs.Steps.{Room}
use Rattle.parts.proofs.Stored.{over_more}
use Rattle.parts.proofs.Callers.{room_from}
use Rattle.rules.specs.declared.Assembling as under
use Rattle.tables.specs.Recorder.{RecorderTables, recorder_tables, recorder_room, recorder_in, recorder_kinds, recorder_refusal, recorder_from, recorder_over, assembling_in}
use Rattle.recorder.specs.Steps.{recorder_held, Roomy, Long, due_in, rises_in, starts_in, assembled_in, record_number, advanced_of}
use Rattle.recorder.proofs.Calls.{passes_roomy, passes_held, passes_long}
use Rattle.recorder.specs.Recorder.{recorder_out, record_out, record_in}

-- ---- 5 to 7
five_is : (r : Recorder) (t : RecorderTables) (lsn : ℕ) (sector : List ℕ) → question5 (recorder_in r t) lsn sector ≡ due_in r lsn (length sector)
unfolding question5 due_in all
five_is r t lsn sector = rw (records_length 24 decode_checkpoint r.checkpoints t.checkpoints) (simp and-true)

six_is : (r : Recorder) (t : RecorderTables) (threshold malformed : ℕ)
    → question6 (recorder_in r t) threshold malformed ≡ rises_in (last_checkpoint (recorder_in r t).checkpoints) (r.first + r.checkpoints) r.interval threshold malformed
unfolding question6 rises_in all
six_is r t threshold malformed = rw (records_length 24 decode_checkpoint r.checkpoints t.checkpoints) (simp and-true)

seven_is : (r : values.Recorder) (lsn : ℕ) (f : Option under.Assembling) (b : List ℕ) → question7 r lsn (assembling_in f b) ≡ starts_in r.area lsn f
unfolding question7 starts_in assembling_in all
seven_is r lsn None b = refl
seven_is r lsn (Some a) b = simp and-true

-- ---- the call by its number
out_after : (t : RecorderTables) (n m : ℕ) (x : values.Recorder)
    → record_out t (after n (after m (Accepted x)))
    ≡ cond (eqb (cond (eqb n 0) m n) 0) (recorder_out (Accepted (recorder_from x)) (recorder_over x t)) (recorder_out (Refused (cond (eqb n 0) m n)) t)
unfolding record_out after
out_after t n m x = test (eqb n 0) (λ e. rw e (test (eqb m 0) (λ g. rw g) (λ g. rw g))) (λ e. rw (e, e))

-- the same number of the tables as they are read
pub read_number : (r : Recorder) {t u : RecorderTables} (lsn threshold malformed : ℕ) (f : Option under.Assembling) (len : ℕ) {n : ℕ} → n ≡ record_number r u lsn threshold malformed f len
    → u ≡ t → n ≡ record_number r t lsn threshold malformed f len
read_number r lsn threshold malformed f len e q = e ∙ rw q refl

module _ (r : Recorder) (t : RecorderTables) (lsn threshold malformed : ℕ) (f : Option under.Assembling) (b sector : List ℕ) {n : ℕ} (e : n ≡ record_number r t lsn threshold malformed f (length sector)) where
  abbrev next : values.Recorder
  next = recorded (recorder_in r t) lsn threshold malformed (assembling_in f b) sector

  record_is : record_in r t lsn threshold malformed f b sector ≡ cond (eqb n 0) (recorder_out (Accepted (recorder_from next)) (recorder_over next t)) (recorder_out (Refused n) t)
  unfolding record_in record_at each record_number recorder_refusal
  record_is =
      ap (record_out t) (kinded_more (recorder_kinds r t) (recorder_four_of (recorder_room t) (recorder_in r t)) _ refl refl _)
      ∙ out_after t _ _ next ∙ rw (five_is r t lsn sector, six_is r t threshold malformed, seven_is (recorder_in r t) lsn f b, ← e)

  pub record_no : (n ≡ 0 → ⊥) → recorder_out (Refused n) t ≡ record_in r t lsn threshold malformed f b sector
  record_no h = sym (record_is ∙ rw (ne_eqb n 0 h))

  module _ (z : n ≡ 0) where
    refused_none : (m x : ℕ) → cond (eqb m 0) x m ≡ 0 → (m ≡ 0) × (x ≡ 0)
    refused_none m x h = test (eqb m 0) (λ q. (eqb-true m 0 q, rw q at h)) (λ q. let y : m ≡ 0 = rw q at h in (y, absurd (eqb-false m 0 q y)))

    pub passed : recorder_refusal r t ≡ 0
    unfolding record_number
    passed = (refused_none _ _ (sym e ∙ z)).0

    questions : (due_in r lsn (length sector) ≡ true) × (starts_in r.area lsn f ≡ true)
    unfolding record_number
    questions =
        let qs : List Ask =
        ask (due_in r lsn (length sector)) 5
        ∷ ask (rises_in (last_checkpoint (recorder_in r t).checkpoints) (r.first + r.checkpoints) r.interval threshold malformed) 6
        ∷ ask (starts_in r.area lsn f) 7 ∷ [] in
        let q = asked qs refl (refused_none (recorder_refusal r t) (first_no qs) (sym e ∙ z)).1 in (q.0, q.1.1.0)

    roomy : Roomy (boundaries r.area r.interval) r t
    roomy = passes_roomy r t refl passed

    -- the LSN and the number of the checkpoint
    pub numbers : (lsn < 4294967296) × (r.first + r.checkpoints < boundaries r.area r.interval) × (boundaries r.area r.interval ≤ 4294967295)
    unfolding due_in
    numbers =
        let due = lsn_of r.area r.interval (r.first + r.checkpoints) in
        let three = ltb lsn r.area.end && eqb (length sector) 2048 in
        let two = and_right (is_running r.mode) (eqb lsn due && three) questions.0 in
        let at : lsn ≡ due = eqb-true lsn due (and_left (eqb lsn due) three two) in
        let inside = ltb-true lsn r.area.end (and_left (ltb lsn r.area.end) (eqb (length sector) 2048) (and_right (eqb lsn due) three two)) in
        let g = range r.area roomy.area in let ge = g.end in
        let pos = interval_pos r.interval r.budget roomy.numbers in
        let m = boundaries_small r.area r.interval pos in
        (omega arith, boundary_in r.area r.interval (r.first + r.checkpoints) pos (omega arith), omega arith)

    pub long : Long r t.checkpoints t.frames t.parts
    long = passes_long r t refl passed

    pub checkpoint_room : r.checkpoints * 24 + 24 ≤ length t.checkpoints
    unfolding scan_space scan_room
    checkpoint_room =
        let s : boundaries r.area r.interval ≤ length t.checkpoints / 24 = leb-true _ _ (indexed _ roomy.room 0) in
        let k = numbers.1 in omega arith

    pub part_room : {c : Counts} → c.frames ≡ r.frames → c.parts ≡ r.parts → c.used ≡ used (recorder_in r t).frames → Room 1 r.budget c (part_tables t.frames t.store t.parts)
    unfolding scan_space scan_room recorder_held
    part_room ef ep eu =
        let h = recorder→ (recorder_in r t) (and_left _ _ (passes_held r t refl passed)) in
        let k = numbers.1 in let kb = numbers.2 in
        let cs = records_length 24 decode_checkpoint r.checkpoints t.checkpoints in
        let s1 : boundaries r.area r.interval ≤ length t.frames / 8 = leb-true _ _ (indexed _ roomy.room 1) in
        let s2 : boundaries r.area r.interval ≤ length t.parts / 24 = leb-true _ _ (indexed _ roomy.room 2) in
        let s3 : r.budget ≤ length t.store = leb-true _ _ (indexed _ roomy.room 3) in
        room_from r.frames r.parts (part_tables t.frames t.store t.parts) h.held 1 (boundaries r.area r.interval) ef ep eu
        (and_right (recorder_question4 (recorder_in r t)) _ (passes_held r t refl passed)) (omega arith) (omega arith) (omega arith) s3 (omega arith)

    assembled_is : (o : Option Assembling) → assembled (recorder_in r t) lsn o
        ≡ assembled_in r.budget (stored_in r.frames r.parts (part_tables t.frames t.store t.parts)) (r.first + r.checkpoints) lsn o
    unfolding assembled assembled_in
    assembled_is None = refl
    assembled_is (Some a) = rw (records_length 24 decode_checkpoint r.checkpoints t.checkpoints)

    checkpoint_over : (c : Checkpoint) → Bytes t.checkpoints → over (bytes_of encode_checkpoint ((recorder_in r t).checkpoints ++ (c ∷ []))) t.checkpoints ≡ sets t.checkpoints (r.checkpoints * 24) (encode_checkpoint c)
    checkpoint_over c y =
        let l = checkpoint_room in
        let s = checkpoint_layout.size c in
        rw (bytes_of_append encode_checkpoint (recorder_in r t).checkpoints (c ∷ []), bytes_of_one encode_checkpoint c)
        (over_more (r.checkpoints * 24) (bytes_of encode_checkpoint (recorder_in r t).checkpoints) (encode_checkpoint c) t.checkpoints (omega arith)
        (bytes_records checkpoint_layout r.checkpoints t.checkpoints y (omega arith)))

    pub record_yes : {cps fs st ps : List ℕ} {c : Counts} {q : Recorder} {back digest : ℕ} → Bytes t.checkpoints → back ≡ back_of lsn (assembling_in f b) → digest ≡ fnv64 sector
        → held c (part_tables fs st ps)
        ≡ held_from (assembled_in r.budget (stored_in r.frames r.parts (part_tables t.frames t.store t.parts)) (r.first + r.checkpoints) lsn (assembling_in f b)) (part_tables t.frames t.store t.parts)
        → cps ≡ sets t.checkpoints (r.checkpoints * 24) (encode_checkpoint (record { threshold = threshold; back = back; malformed = malformed; digest = digest }))
        → q ≡ advanced_of r c → recorder_out (Accepted q) (recorder_tables cps fs st ps) ≡ record_in r t lsn threshold malformed f b sector
    unfolding advanced_of
    record_yes {cps} {fs} {st} {ps} {c} {q} y eb ed h ec eq =
        let s = assembled_in r.budget (stored_in r.frames r.parts (part_tables t.frames t.store t.parts)) (r.first + r.checkpoints) lsn (assembling_in f b) in
        let a = assembled_is (assembling_in f b) in
        let k : Checkpoint = record { threshold = threshold; back = back_of lsn (assembling_in f b); malformed = malformed; digest = fnv64 sector } in
        let tables : part_tables fs st ps ≡ stored_over s (part_tables t.frames t.store t.parts) = ap (λ (x : Held). x.tables) h in
        let ef = ap (λ (x : PartTables). x.frames) tables in let es = ap (λ (x : PartTables). x.store) tables in let ep = ap (λ (x : PartTables). x.parts) tables in
        let counts : c ≡ counts_of s = ap (λ (x : Held). x.counts) h in
        let n1 = length_snoc (recorder_in r t).checkpoints k in
        let n2 = records_length 24 decode_checkpoint r.checkpoints t.checkpoints in
        sym (record_is ∙ rw (eq-eqb n 0 z, checkpoint_over k y, n1, n2, a, eq, counts, ec, eb, ed, ef, es, ep))
