-- The steps of an absorb, put together. Assumes nothing.
use Rattle.std.specs.Prelude.{Option, ℕ}
use mathlib.Core.Path.{◌≡◌, sym, ap, ◌∙◌}
use mathlib.Core.Bool.{cond}
use mathlib.Core.List.{List, ◌++◌}
use Prim.Native.Nat.{ℕ, ◌-◌}
use lib.Dec.{ltb}
use lib.ListN.{length, take, drop}
use Rattle.field.specs.Records.{bytes_of}
use Rattle.field.proofs.Records.{records_length}
use Rattle.rules.specs.declared.AreaIndex.{AreaIndex}
use Rattle.rules.specs.declared.EndState.{EndState}
use Rattle.rules.specs.declared.Recorder.{Recorder}
use Rattle.rules.specs.Tests.{or_else}
use Rattle.rules.specs.Values.{Scan, max_malformed}
use Rattle.rules.specs.Values as values
use Rattle.rules.specs.PartRule.{Stored, add_parts}
use Rattle.rules.specs.Questions.{end_of}
use Rattle.rules.specs.Record.{below, moves}
use Rattle.rules.specs.File.{encode_checkpoint, encode_frame_header, encode_held, encode_lsn, decode_checkpoint, decode_confirmation, over}
use Rattle.tables.specs.Tables.{lsns_in, decode_kept, kept_in, confirmations_in, given_in}
use Rattle.tables.specs.Index.{Tables, tables, index_in, store_of, numbers_from}
use Rattle.parts.specs.declared.Counts.{Counts}
use Rattle.parts.specs.Parts.{part_tables, stored_in, Held, held, held_from}
use Rattle.tables.specs.Recorder.{RecorderTables, recorder_in}
use Rattle.merge.specs.Steps.{Appended, parts_taken}
use Rattle.absorb.specs.Steps.{written, absorbed_list, absorbed_in, Kept, AbsorbReady, front_of, front_at, TakesBelow, TakenBelow, numbers_by}
use Rattle.absorb.proofs.committed.Ready.{own_malformed}

-- ---- numbers and tables
ends : {y y' : AreaIndex} {a a' b b' c c' d d' e e' f f' g g' : List ℕ} → y ≡ y' → a ≡ a' → b ≡ b' → c ≡ c' → d ≡ d' → e ≡ e' → f ≡ f' → g ≡ g'
    → written y (tables a b c d e f g) ≡ written y' (tables a' b' c' d' e' f' g')
ends p q0 q1 q2 q3 q4 q5 q6 = λ i. written (p i) (tables (q0 i) (q1 i) (q2 i) (q3 i) (q4 i) (q5 i) (q6 i))

-- ---- the absorbed index, part by part
module _ (x : AreaIndex) (t : Tables) (r : Recorder) (u : RecorderTables) (image : Option ℕ) (ms : List ℕ) where
  abbrev own : Scan
  own = (index_in x t).scan

  abbrev theirs : values.Recorder
  theirs = recorder_in r u

  abbrev after_scan : Scan
  after_scan = (absorbed_list x t r u image ms).scan

  counts : length own.checkpoints ≡ x.checkpoints
  counts = records_length 24 decode_checkpoint x.checkpoints t.checkpoints

  checkpoints_are : own.checkpoints ++ drop (x.checkpoints - r.first) theirs.checkpoints ≡ after_scan.checkpoints
  checkpoints_are = rw counts

  abbrev after_stored : Stored
  after_stored = record { frames = after_scan.frames; parts = after_scan.parts }

  stored_are : add_parts x.budget theirs.frames x.checkpoints theirs.parts (stored_in x.frames x.parts (part_tables t.frames t.store t.parts)) ≡ after_stored
  stored_are = rw counts

  module _ {n : ℕ} {e : Option EndState} (hn : n ≡ length (own.checkpoints ++ drop (x.checkpoints - r.first) theirs.checkpoints))
      (he : e ≡ or_else (end_of r.mode) x.ending) where
    -- the frontier moves
    moves_is : ltb (front_of x) (front_at x n e) ≡ moves own theirs
    moves_is = rw (hn, he, counts)

    pub takes_below : AbsorbReady x t.checkpoints t.frames t.store t.parts t.malformed r u ms → TakesBelow x n e t.malformed ms
    takes_below k =
        let m = own_malformed k in
        record { area = k.own.roomy.area; own = m.0; room = m.1; rises = λ z. k.rises (sym moves_is ∙ z) }

    malformed_are : cond (ltb (front_of x) (front_at x n e)) (take max_malformed (below (front_at x n e) (given_in ms))) (lsns_in x.malformed t.malformed) ≡ after_scan.malformed
    malformed_are = rw (hn, he, counts)

  module _ {n m : ℕ} {c : Counts} (e : Option EndState) {y : AreaIndex} {cs fs st ps ls : List ℕ}
      (p0 : e ≡ or_else (end_of r.mode) x.ending)
      (p1 : Appended x.checkpoints r.checkpoints (x.checkpoints - r.first) t.checkpoints u.checkpoints n cs)
      (p2 : held c (part_tables fs st ps) ≡ parts_taken x r.frames r.parts (part_tables t.frames t.store t.parts) (part_tables u.frames u.store u.parts))
      (p3 : TakenBelow x n e t.malformed ms m ls)
      (p4 : y ≡ numbers_by x image n c m e) where
    parts_done : held c (part_tables fs st ps) ≡ held_from after_stored (part_tables t.frames t.store t.parts)
    parts_done = p2 ∙ rw stored_are

    numbers_are : y ≡ numbers_from (absorbed_list x t r u image ms)
    unfolding numbers_by
    numbers_are =
        let e3 : n ≡ length after_scan.checkpoints = p1.count ∙ ap length checkpoints_are in
        let e4 : c.frames ≡ length after_scan.frames = ap (λ (h : Held). h.counts.frames) parts_done in
        let e5 : c.parts ≡ length after_scan.parts = ap (λ (h : Held). h.counts.parts) parts_done in
        let e6 : m ≡ length after_scan.malformed = p3.count ∙ ap length (malformed_are p1.count p0) in
        let e7 : x.hints ≡ length (kept_in x.hints t.hints) = sym (records_length 8 decode_kept x.hints t.hints) in
        let e8 : x.confirmed ≡ length (confirmations_in x.confirmed t.confirmed) = sym (records_length 16 decode_confirmation x.confirmed t.confirmed) in
        let e9 : e ≡ after_scan.ending = p0 in
        p4 ∙ (λ i. record {
          area = x.area;
          interval = x.interval;
          budget = x.budget;
          spacing = x.spacing;
          most = x.most;
          checkpoints = e3 i;
          frames = e4 i;
          parts = e5 i;
          malformed = e6 i;
          hints = e7 i;
          confirmed = e8 i;
          ending = e9 i;
          fingerprint = x.fingerprint;
          image = (or_else x.image image);
        })

    pub committed : Kept x t.hints t.confirmed → written y (tables cs fs st ps ls t.hints t.confirmed) ≡ absorbed_in x t r u image ms
    unfolding absorbed_in
    committed k =
        let e0 : cs ≡ over (bytes_of encode_checkpoint after_scan.checkpoints) t.checkpoints = p1.bytes ∙ rw checkpoints_are in
        let e1 : fs ≡ over (bytes_of encode_frame_header after_scan.frames) t.frames = ap (λ (h : Held). h.tables.frames) parts_done in
        let e2 : st ≡ over (store_of after_scan.frames) t.store = ap (λ (h : Held). h.tables.store) parts_done in
        let e3 : ps ≡ over (bytes_of encode_held after_scan.parts) t.parts = ap (λ (h : Held). h.tables.parts) parts_done in
        let e4 : ls ≡ over (bytes_of encode_lsn after_scan.malformed) t.malformed = p3.bytes ∙ rw (malformed_are p1.count p0) in
        ends numbers_are e0 e1 e2 e3 e4 (sym k.hints) (sym k.confirmed)
