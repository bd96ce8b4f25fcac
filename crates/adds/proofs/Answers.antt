-- What a merge would bring, from the numbers and the tables. Assumes nothing.
use mathlib.Core.Path.{◌≡◌, sym, ◌∙◌}
use mathlib.Core.Bool.{Bool, ◌&&◌, not, cond}
use mathlib.Core.List.{[]}
use Prim.Native.Nat.{ℕ, ◌*◌, ◌≤◌}
use native.Mathlib.Omega.{arith}
use lib.Dec.{eqb, ltb}
use lib.ListN.{length}
use borrow.Author.Tests.{eq-eqb, ne_eqb}
use Rattle.field.specs.Records.{records}
use Rattle.field.proofs.Records.{records_length}
use Rattle.rules.specs.declared.AreaIndex.{AreaIndex}
use Rattle.rules.specs.Tests.{is_some, or_else, Accepted, after, Refused}
use Rattle.rules.specs.Values.{Scan, is_checked, same_checkpoint, same_end}
use Rattle.rules.specs.File.{decode_checkpoint, decode_confirmation}
use Rattle.rules.specs.Merge.{further, merged_scan, merged_fingerprint, merged}
use Rattle.rules.proofs.Tests.{test}
use Rattle.tables.specs.Tables.{lsns_in, confirmations_in, decode_kept, kept_in}
use Rattle.tables.specs.Index.{Tables, index_in}
use Rattle.index.proofs.Questions.{passes_long, passes_hints}
use Rattle.merge.specs.Merge.{merge_refusal, further_in}
use Rattle.merge.specs.Steps.{Joins}
use Rattle.merge.proofs.questions.Refusal.{further_is, asked_after}
use Rattle.merge.proofs.questions.Ready.{hinting_is, areas}
use Rattle.merge.proofs.questions.Held.{lent, room}
use Rattle.parts.specs.Parts.{part_tables}
use Rattle.adds.specs.Adds.{same_list, same_known, same_fingerprint, brings_of, brings, adds_in}
use Rattle.adds.specs.Answers.{HintsAnswered, ConfirmedAnswered}
use Rattle.rules.specs.declared.Brings.{Brings}
use Rattle.adds.specs.Steps.{PartsRead, parts_change, some_stored, brings_in}
use Rattle.adds.proofs.Fields.{checkpoints_change, ending_change, malformed_change}
use Rattle.adds.proofs.Parts.{parts_change_lemma}

module _ {x y : AreaIndex} {t u : Tables} (j : Joins x t y u) where
  -- ---- what the steps need
  pub lsns_room : (x.malformed * 4 ≤ length t.malformed) × (y.malformed * 4 ≤ length u.malformed)
  lsns_room = ((passes_long j.own).malformed, (passes_long j.other).malformed)

  pub hints_room : (x.hints * 8 ≤ length t.hints) × (y.hints * 8 ≤ length u.hints) × (x.hints ≤ x.most)
  hints_room =
      let h = (hinting_is j.own).few in let n = records_length 8 decode_kept x.hints t.hints in
      ((passes_hints j.own).hints, (passes_hints j.other).hints, omega arith)

  pub confirmed_room : (x.confirmed * 16 ≤ length t.confirmed) × (y.confirmed * 16 ≤ length u.confirmed)
      × (x.confirmed ≤ x.most)
  confirmed_room =
      let h = (hinting_is j.own).fewer in
      let n = records_length 16 decode_confirmation x.confirmed t.confirmed in
      ((passes_hints j.own).confirmed, (passes_hints j.other).confirmed, omega arith)

  abbrev own : Scan
  own = (index_in x t).scan

  abbrev other : Scan
  other = (index_in y u).scan

  module _ {go : Bool} (g : go ≡ further_in x y) where
    pub parts_read : PartsRead go x y (part_tables t.frames t.store t.parts)
        (part_tables u.frames u.store u.parts)
    parts_read =
        record { own = (passes_long j.own).frames; lent = lent j g; ready = λ c ef eh eu. (room j g c ef eh eu).ready }

    go_is : go ≡ further own other
    go_is = g ∙ further_is x t y u

    parts_are : parts_change go x y (part_tables t.frames t.store t.parts)
        (part_tables u.frames u.store u.parts)
        ≡ some_stored own.budget other.frames (length own.checkpoints)
        (cond (further own other) other.parts []) (record { frames = own.frames; parts = own.parts })
    unfolding parts_change records
    parts_are =
        rw (records_length 24 decode_checkpoint x.checkpoints t.checkpoints, go_is)
        (test (further own other) (λ e. rw e) (λ e. rw e))

    module _ {a b c d e f h i l : Bool}
        (p0 : a ≡ (go && ltb x.checkpoints y.checkpoints))
        (p1 : b ≡ (go && is_some y.ending))
        (p2 : c ≡ parts_change go x y (part_tables t.frames t.store t.parts)
        (part_tables u.frames u.store u.parts))
        (p3 : l ≡ same_list eqb (lsns_in x.malformed t.malformed) (lsns_in y.malformed u.malformed))
        (p4 : d ≡ (go && not l))
        (p5 : HintsAnswered x.most (kept_in x.hints t.hints) (kept_in y.hints u.hints) e)
        (p6 : ConfirmedAnswered (is_checked x.fingerprint) x.most (confirmations_in x.confirmed t.confirmed)
        (confirmations_in y.confirmed u.confirmed) f)
        (p7 : h ≡ not (same_fingerprint x.fingerprint (merged_fingerprint x.fingerprint y.fingerprint)))
        (p8 : i ≡ not (same_known eqb x.image (or_else x.image y.image))) where
      pub brought_is : ◌≡◌ {A = Brings}
          (record {
            checkpoints = a;
            ending = b;
            parts = c;
            malformed = d;
            hints = e;
            confirmed = f;
            fingerprint = h;
            image = i;
          }) (brings_in x t y u)
      unfolding brings_in brings_of merged
      brought_is =
          let n = records_length 24 decode_checkpoint x.checkpoints t.checkpoints in
          let m = records_length 24 decode_checkpoint y.checkpoints u.checkpoints in
          let e0 : a ≡ not (same_list same_checkpoint own.checkpoints (merged_scan own other).checkpoints) =
          p0 ∙ rw go_is (sym (rw (n, m) at (checkpoints_change own other))) in
          let e1 : b ≡ not (same_known same_end own.ending (merged_scan own other).ending) =
          p1 ∙ rw go_is (sym (ending_change own other)) in
          let e2 = p2 ∙ parts_are ∙ sym (parts_change_lemma own other) in
          let e3 : d ≡ not (same_list eqb own.malformed (merged_scan own other).malformed) =
          p4 ∙ rw (p3, go_is) (sym (malformed_change own other)) in
          let e4 = p5 x.area (hinting_is j.own).hints (rw (areas j) (hinting_is j.other).hints) in
          let e5 = p6 x.area (hinting_is j.own).confirmed (rw (areas j) (hinting_is j.other).confirmed) in
          λ k. record {
            checkpoints = e0 k;
            ending = e1 k;
            parts = e2 k;
            malformed = e3 k;
            hints = e4 k;
            confirmed = e5 k;
            fingerprint = p7 k;
            image = p8 k;
          }

-- ---- the call
module _ (x : AreaIndex) (t : Tables) (y : AreaIndex) (u : Tables) {n : ℕ} (e : n ≡ merge_refusal x t y u) where
  call_is : adds_in x t y u ≡ after n (Accepted (brings_in x t y u))
  unfolding brings brings_in
  call_is = asked_after x t y u (brings_of (index_in x t) (merged (index_in x t) (index_in y u))) e

  pub adds_refused : (n ≡ 0 → ⊥) → Refused n ≡ adds_in x t y u
  unfolding after
  adds_refused h = sym (call_is ∙ rw (ne_eqb n 0 h))

  pub adds_done : {b : Brings} → n ≡ 0 → b ≡ brings_in x t y u → Accepted b ≡ adds_in x t y u
  unfolding after
  adds_done h q = sym (call_is ∙ rw (eq-eqb n 0 h, ← q))
