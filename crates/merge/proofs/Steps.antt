-- The steps of a merge, put together. Assumes nothing.
use Rattle.rules.specs.declared.EndState.{EndState}
use Rattle.std.specs.Prelude.{Option, None, Some}
use mathlib.Core.Path.{◌≡◌, refl, sym, ap, ◌∙◌}
use mathlib.Core.Bool.{Bool, cond}
use mathlib.Core.List.{List, ◌++◌, append-nil}
use Prim.Native.Nat.{ℕ, ◌-◌, ◌*◌}
use lib.ListN.{length, drop, replicate}
use lib.Seq.{drop-nil}
use borrow.Author.Tests.{eq-eqb, ne_eqb}
use Rattle.field.specs.Records.{records, bytes_of}
use Rattle.field.proofs.Format.{bytes_of_length}
use Rattle.field.proofs.Records.{records_length}
use Rattle.rules.specs.declared.AreaIndex.{AreaIndex}
use Rattle.rules.specs.Tests.{Accepted, after}
use Rattle.rules.specs.Values.{Scan, Index, is_checked}
use Rattle.rules.specs.PartRule.{Stored, add_parts}
use Rattle.rules.specs.Hints.{keep_all}
use Rattle.rules.specs.File.{encode_checkpoint, encode_frame_header, encode_held, encode_lsn, encode_confirmation, decode_checkpoint, over}
use Rattle.rules.specs.Merge.{further, merged_scan, merged, merge}
use Rattle.rules.proofs.Tests.{test}
use Rattle.laws.specs.Passes.{Begins}
use Rattle.laws.proofs.Layouts.{confirmation_layout}
use Rattle.tables.specs.Tables.{checkpoints_in, parts_in, encode_kept, confirmations_in}
use Rattle.tables.specs.Index.{Tables, tables, index_in, store_of, numbers_from, tables_cleared, MadeOut, made_out, made_out_of}
use Rattle.rules.specs.declared.Made.TheVariants as made
use Rattle.merge.specs.Merge.{merge_refusal, further_in, hints_written, merge_in}
use Rattle.merge.proofs.questions.Refusal.{further_is, asked_after}
use Rattle.parts.specs.declared.Counts.{Counts}
use Rattle.parts.specs.Parts.{part_tables, stored_in, Held, held, held_from}
use Rattle.merge.specs.Numbers.{numbers_by}
use Rattle.merge.specs.Steps.{Appended, LsnsTaken, parts_taken, CountedTable, counted_table, cleared_up_to, hints_joined, out_index, merged_in}

-- ---- answer and tables
ends : {r r' : AreaIndex} {a a' b b' c c' d d' e e' f f' g g' : List ℕ} → r ≡ r' → a ≡ a' → b ≡ b' → c ≡ c' → d ≡ d' → e ≡ e' → f ≡ f' → g ≡ g'
    → out_index r (tables a b c d e f g) ≡ out_index r' (tables a' b' c' d' e' f' g')
ends p q0 q1 q2 q3 q4 q5 q6 = λ i. out_index (p i) (tables (q0 i) (q1 i) (q2 i) (q3 i) (q4 i) (q5 i) (q6 i))

-- ---- the merged list, part by part
-- what a merge never changes
module _ (own other : Scan) where
  area_kept : (merged_scan own other).area ≡ own.area
  unfolding merged_scan
  area_kept = test (further own other) (λ e. rw e) (λ e. rw e)

  interval_kept : (merged_scan own other).interval ≡ own.interval
  unfolding merged_scan
  interval_kept = test (further own other) (λ e. rw e) (λ e. rw e)

  budget_kept : (merged_scan own other).budget ≡ own.budget
  unfolding merged_scan
  budget_kept = test (further own other) (λ e. rw e) (λ e. rw e)

end_back : (e : Option EndState) → e ≡ e
end_back None = refl
end_back (Some e) = refl

module _ (x y : AreaIndex) (t u : Tables) {go : Bool} (g : go ≡ further_in x y) where
  abbrev own : Scan
  own = (index_in x t).scan

  abbrev other : Scan
  other = (index_in y u).scan

  abbrev after_scan : Scan
  after_scan = merged_scan own other

  go_is : go ≡ further own other
  go_is = g ∙ further_is x t y u

  checkpoints_are : {k : ℕ} → k ≡ cond go y.checkpoints 0
      → own.checkpoints ++ drop x.checkpoints (checkpoints_in k u.checkpoints) ≡ after_scan.checkpoints
  unfolding merged_scan records
  checkpoints_are q =
      rw (q, go_is)
      (test (further own other) (λ e. rw (e, records_length 24 decode_checkpoint x.checkpoints t.checkpoints)) (λ e. rw (e, drop-nil, append-nil)))

  malformed_are : cond go other.malformed own.malformed ≡ after_scan.malformed
  unfolding merged_scan
  malformed_are = rw go_is (test (further own other) (λ e. rw e) (λ e. rw e))

  ending_is : cond go y.ending x.ending ≡ after_scan.ending
  unfolding merged_scan
  ending_is = rw go_is (test (further own other) (λ e. rw e (end_back y.ending)) (λ e. rw e (end_back x.ending)))

  abbrev after_stored : Stored
  after_stored = record { frames = after_scan.frames; parts = after_scan.parts }

  stored_are : {h : ℕ} → h ≡ cond go y.parts 0
      → add_parts x.budget other.frames x.checkpoints (parts_in h u.parts) (stored_in x.frames x.parts (part_tables t.frames t.store t.parts)) ≡ after_stored
  unfolding merged_scan add_parts records
  stored_are q =
      rw (q, go_is)
      (test (further own other) (λ e. rw (e, records_length 24 decode_checkpoint x.checkpoints t.checkpoints)) (λ e. rw e))

  module _ {k h n m s d : ℕ} {c : Counts} {r : AreaIndex} {cs fs st ps ms hs ks : List ℕ}
      (ek : k ≡ cond go y.checkpoints 0) (eh : h ≡ cond go y.parts 0)
      (p1 : Appended x.checkpoints k x.checkpoints t.checkpoints u.checkpoints n cs)
      (p2 : held c (part_tables fs st ps) ≡ parts_taken x y.frames h (part_tables t.frames t.store t.parts) (part_tables u.frames u.store u.parts))
      (p3 : LsnsTaken go x.malformed y.malformed t.malformed u.malformed m ms)
      (p4 : counted_table s hs ≡ hints_joined x.area x.most x.hints y.hints t.hints u.hints)
      (p5 : Begins 16 encode_confirmation (keep_all (is_checked x.fingerprint) x.most (confirmations_in x.confirmed t.confirmed) (confirmations_in y.confirmed u.confirmed)) d t.confirmed ks)
      (p6 : r ≡ numbers_by x y go n c m s d) where
    abbrev after_index : Index
    after_index = merged (index_in x t) (index_in y u)

    parts_done : held c (part_tables fs st ps) ≡ held_from after_stored (part_tables t.frames t.store t.parts)
    parts_done = p2 ∙ rw (stored_are eh)

    hints_here : counted_table s hs ≡ cleared_up_to (hints_written x y) after_index.hinting.hints t.hints
    unfolding hints_joined hints_written merged
    hints_here = p4

    confirmed_count : d ≡ length after_index.hinting.confirmed
    unfolding merged
    confirmed_count = p5.count

    confirmed_bytes_lemma : ks ≡ over (bytes_of encode_confirmation after_index.hinting.confirmed) t.confirmed
    unfolding merged
    confirmed_bytes_lemma = p5.bytes ∙ rw (bytes_of_length confirmation_layout _, ← p5.count)

    numbers_are : r ≡ numbers_from after_index
    unfolding numbers_by merged
    numbers_are =
        let e0 : x.area ≡ after_scan.area = sym (area_kept own other) in
        let e1 : x.interval ≡ after_scan.interval = sym (interval_kept own other) in
        let e2 : x.budget ≡ after_scan.budget = sym (budget_kept own other) in
        let e3 : n ≡ length after_scan.checkpoints = p1.count ∙ ap length (checkpoints_are ek) in
        let e4 : c.frames ≡ length after_scan.frames = ap (λ (h : Held). h.counts.frames) parts_done in
        let e5 : c.parts ≡ length after_scan.parts = ap (λ (h : Held). h.counts.parts) parts_done in
        let e6 : m ≡ length after_scan.malformed = p3.count ∙ ap length malformed_are in
        let e7 : s ≡ length after_index.hinting.hints = ap (λ (h : CountedTable). h.count) hints_here in
        let e8 = confirmed_count in
        let e9 = ending_is in
        p6 ∙ (λ i. record {
          area = e0 i;
          interval = e1 i;
          budget = e2 i;
          spacing = x.spacing;
          most = x.most;
          checkpoints = e3 i;
          frames = e4 i;
          parts = e5 i;
          malformed = e6 i;
          hints = e7 i;
          confirmed = e8 i;
          ending = e9 i;
          fingerprint = after_index.fingerprint;
          image = after_index.image;
        })

    pub committed : out_index r (tables cs fs st ps ms hs ks) ≡ merged_in x t y u
    unfolding merged_in merged
    committed =
        let q = numbers_are in
        let e0 : cs ≡ over (bytes_of encode_checkpoint after_scan.checkpoints) t.checkpoints = p1.bytes ∙ rw (checkpoints_are ek) in
        let e1 : fs ≡ over (bytes_of encode_frame_header after_scan.frames) t.frames = ap (λ (h : Held). h.tables.frames) parts_done in
        let e2 : st ≡ over (store_of after_scan.frames) t.store = ap (λ (h : Held). h.tables.store) parts_done in
        let e3 : ps ≡ over (bytes_of encode_held after_scan.parts) t.parts = ap (λ (h : Held). h.tables.parts) parts_done in
        let e4 : ms ≡ over (bytes_of encode_lsn after_scan.malformed) t.malformed = p3.bytes ∙ rw malformed_are in
        let e5 : hs ≡ over (bytes_of encode_kept after_index.hinting.hints ++ replicate ((hints_written x y - length after_index.hinting.hints) * 8) 0) t.hints =
        ap (λ (h : CountedTable). h.table) hints_here in
        let e6 = confirmed_bytes_lemma in
        ends q e0 e1 e2 e3 e4 e5 e6

-- ---- the call
module _ (x : AreaIndex) (t : Tables) (y : AreaIndex) (u : Tables) {n : ℕ} (e : n ≡ merge_refusal x t y u) where
  call_is : merge_in x t y u ≡ made_out_of (λ z. tables_cleared (hints_written x y) z t) t (after n (Accepted (merged (index_in x t) (index_in y u))))
  unfolding merge
  call_is = ap (made_out_of (λ z. tables_cleared (hints_written x y) z t) t) (asked_after x t y u (merged (index_in x t) (index_in y u)) e)

  pub merge_refused : (n ≡ 0 → ⊥) → made_out (made.Refused n) t ≡ merge_in x t y u
  unfolding after made_out_of
  merge_refused h = sym (call_is ∙ rw (ne_eqb n 0 h))

  pub merge_done : {o : MadeOut} → n ≡ 0 → o ≡ merged_in x t y u → o ≡ merge_in x t y u
  unfolding after made_out_of merged_in
  merge_done h q = q ∙ sym (call_is ∙ rw (eq-eqb n 0 h))
