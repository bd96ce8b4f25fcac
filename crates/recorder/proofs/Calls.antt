-- What recorder and finish answer, by the numbers that refuse. Assumes nothing.
use Rattle.std.specs.Prelude.{Some}
use mathlib.Core.Path.{◌≡◌, refl, sym, ap, ◌∙◌}
use mathlib.Core.Bool.{Bool, true, false, ◌&&◌, not, cond}
use mathlib.Core.List.{[], ◌∷◌}
use Prim.Native.Nat.{ℕ, ◌+◌}
use borrow.Author.Tests.{eq-eqb, ne_eqb, not-true, not-false}
use lib.Dec.{eqb}
use Rattle.field.proofs.Records.{records_length}
use Rattle.rules.specs.declared.AreaIndex.{AreaIndex}
use Rattle.rules.specs.declared.EndState.{EndState}
use Rattle.rules.specs.declared.Mode.{Mode}
use Rattle.rules.specs.declared.Mode.TheVariants.{Finished}
use Rattle.rules.specs.declared.Recorder.{Recorder}
use Rattle.rules.specs.Tests.{each, Answer, Accepted, after, ask, first_no, Refused}
use Rattle.rules.specs.Values.{boundaries, last_checkpoint}
use Rattle.rules.specs.Values as values
use Rattle.rules.specs.Sections.{end_ok, ending_ok}
use Rattle.rules.specs.Questions.{recorder_four_of}
use Rattle.rules.specs.Create.{recorder, empty_recorder}
use Rattle.rules.specs.Record.{is_running, with_mode, finish}
use Rattle.rules.specs.File.{decode_checkpoint, decode_held}
use Rattle.rules.proofs.Tests.{test, asked, and_left}
use Rattle.tables.specs.Index.{Tables, index_in, refusal}
use Rattle.index.proofs.Four.{kinded_index, kinded_more}
use Rattle.parts.proofs.Frames.{count}
use Rattle.tables.specs.Recorder.{RecorderTables, recorder_room, recorder_in, recorder_kinds, recorder_refusal, recorder_from}
use Rattle.recorder.specs.Recorder.{recorder_of, started_in, finished_in, mode_of}
use Rattle.recorder.specs.Steps.{recorder_held, Roomy, Long, empty_of}
use Rattle.recorder.proofs.Questions.{refusal_is, held_is, spaced, long_by}

-- an answer after a number
pub answer_after : (n : ℕ) (x : Answer values.Recorder) → recorder_of (after n x) ≡ cond (eqb n 0) (recorder_of x) (Refused n)
unfolding after recorder_of
answer_after n x = test (eqb n 0) (λ e. rw e) (λ e. rw e)

-- ---- recorder
module _ (x : AreaIndex) (t : Tables) (from : ℕ) {n : ℕ} (e : n ≡ refusal x t) where
  empty_is : recorder_from (empty_recorder (index_in x t).scan from) ≡ empty_of x from
  unfolding empty_of
  empty_is = rw (records_length 24 decode_checkpoint x.checkpoints t.checkpoints)

  started_is : started_in x t from ≡ cond (eqb n 0) (Accepted (empty_of x from)) (Refused n)
  unfolding started_in recorder each first_no recorder_of
  started_is =
      ap recorder_of (kinded_index x t [] refl e _) ∙ answer_after n (after 0 (Accepted (empty_recorder (index_in x t).scan from)))
      ∙ rw (answer_after 0 (Accepted (empty_recorder (index_in x t).scan from)), empty_is)

  pub started_no : (n ≡ 0 → ⊥) → Refused n ≡ started_in x t from
  started_no h = sym (started_is ∙ rw (ne_eqb n 0 h))

  pub started_yes : {r : Recorder} → n ≡ 0 → r ≡ empty_of x from → Accepted r ≡ started_in x t from
  started_yes h g = rw g (sym (started_is ∙ rw (eq-eqb n 0 h)))

-- ---- a recorder that passes 1 to 4
module _ (r : Recorder) (t : RecorderTables) {n : ℕ} (e : n ≡ recorder_refusal r t) where
  module _ (z : n ≡ 0) where
    pub passes_roomy : Roomy (boundaries r.area r.interval) r t
    passes_roomy =
        let q = asked _ refl (sym (refusal_is r t) ∙ sym e ∙ z) in
        record { is = refl; area = q.0; numbers = q.1.0; room = q.1.1.0 }

    pub passes_held : recorder_held r t ≡ true
    passes_held = (asked _ refl (sym (refusal_is r t) ∙ sym e ∙ z)).1.1.1.0

    pub passes_long : Long r t.checkpoints t.frames t.parts
    passes_long = long_by (spaced passes_roomy) _ refl (and_left _ _ (sym (held_is r t) ∙ passes_held))

  -- ---- finish
  module _ (s : EndState) where
    mode_is : (m : Mode) → recorder_from (with_mode (recorder_in r t) m) ≡ mode_of r m
    unfolding mode_of
    mode_is m =
        rw (records_length 24 decode_checkpoint r.checkpoints t.checkpoints, count r.frames t.frames t.store, records_length 24 decode_held r.parts t.parts)

    two : (g h : Bool) (y : values.Recorder) → recorder_of (after (first_no (ask g 5 ∷ ask h 6 ∷ [])) (Accepted y)) ≡ cond g (cond h (Accepted (recorder_from y)) (Refused 6)) (Refused 5)
    unfolding recorder_of after first_no
    two true true y = refl
    two true false y = refl
    two false h y = refl

    finished_is : finished_in r t s
        ≡ cond (eqb n 0)
        (cond (is_running r.mode && eqb (r.first + r.checkpoints) (boundaries r.area r.interval))
        (cond (end_ok r.area (last_checkpoint (recorder_in r t).checkpoints) s) (Accepted (mode_of r (Finished s))) (Refused 6)) (Refused 5))
        (Refused n)
    unfolding finished_in finish each recorder_refusal
    finished_is =
        ap recorder_of (kinded_more (recorder_kinds r t) (recorder_four_of (recorder_room t) (recorder_in r t)) _ refl e _)
        ∙ answer_after n _ ∙ rw (two, mode_is (Finished s), records_length 24 decode_checkpoint r.checkpoints t.checkpoints)

    pub finished_no : (n ≡ 0 → ⊥) → Refused n ≡ finished_in r t s
    finished_no h = sym (finished_is ∙ rw (ne_eqb n 0 h))

    module _ (z : n ≡ 0) {g : Bool} (p : g ≡ (is_running r.mode && eqb (r.first + r.checkpoints) (boundaries r.area r.interval))) where
      pub finished_5 : not g ≡ true → Refused 5 ≡ finished_in r t s
      finished_5 h = sym (finished_is ∙ rw (eq-eqb n 0 z, ← p, not-true g h))

      module _ (m : not g ≡ false) {k : Bool} (q : k ≡ ending_ok r.area (recorder_in r t).checkpoints (Some s)) where
        pub finished_6 : not k ≡ true → Refused 6 ≡ finished_in r t s
        unfolding ending_ok
        finished_6 h = sym (finished_is ∙ rw (eq-eqb n 0 z, ← p, not-false g m, ← q, not-true k h))

        pub finished_yes : {y : Recorder} → not k ≡ false → y ≡ mode_of r (Finished s) → Accepted y ≡ finished_in r t s
        unfolding ending_ok
        finished_yes h i = rw i (sym (finished_is ∙ rw (eq-eqb n 0 z, ← p, not-false g m, ← q, not-false k h)))
