-- What questions 1 to 4 say of a recorder in its tables. Assumes nothing.
use Rattle.std.specs.Prelude.{Option}
use mathlib.Core.Path.{◌≡◌, sym, ◌∙◌}
use mathlib.Core.Bool.{Bool, true, false, ◌&&◌, not, and-true, and_assoc}
use mathlib.Core.List.{List, [], ◌∷◌}
use Prim.Native.Nat.{ℕ, ◌+◌, ◌-◌, ◌≤◌}
use native.Mathlib.Omega.{arith}
use borrow.Author.Tests.{leb-true, not-true, not-false}
use Rattle.field.proofs.Records.{records_length}
use Rattle.rules.specs.declared.EndState.{EndState}
use Rattle.rules.specs.declared.Recorder.{Recorder}
use Rattle.rules.specs.Tests.{all, is_some, ask, first_no}
use Rattle.rules.specs.Values.{boundaries}
use Rattle.rules.specs.Sections.{checkpoints_ok, frames_ok, parts_ok, ending_ok}
use Rattle.rules.specs.Questions.{area_ok, numbers_ok, scan_room, held_ok, end_of, recorder_question1, recorder_question2, recorder_question3, recorder_question4}
use Rattle.rules.specs.File.{decode_checkpoint, decode_held}
use Rattle.laws.proofs.Ranges.{boundaries_small}
use Rattle.laws.proofs.scans.Record.{interval_pos}
use Rattle.index.specs.Index.{scan_space}
use Rattle.index.proofs.Four.{one_bits}
use Rattle.index.proofs.Numbers.{within24, within8, test}
use Rattle.index.proofs.Questions.{range}
use Rattle.parts.proofs.Frames.{count}
use Rattle.tables.specs.Recorder.{RecorderTables, recorder_in, recorder_kinds, recorder_refusal}
use Rattle.recorder.specs.Steps.{recorder_held, stretch_counts, stretch_in, Roomy, Spaced, Long}

-- ---- counts
pub spaced : {b : ℕ} {r : Recorder} {t : RecorderTables} → Roomy b r t
    → Spaced b r t.checkpoints t.frames t.parts
unfolding scan_space scan_room
spaced s =
    record {
      is = s.is;
      area = s.area;
      numbers = s.numbers;
      checkpoints = leb-true _ _ (test _ s.room 0);
      frames = leb-true _ _ (test _ s.room 1);
      parts = leb-true _ _ (test _ s.room 2);
    }

module _ {b : ℕ} {r : Recorder} {cs fs ps : List ℕ} (s : Spaced b r cs fs ps) where
  pub long_by : {q : Bool} (whole : Bool)
      → q ≡ stretch_counts b r.first r.checkpoints whole r.frames r.parts → q ≡ true → Long r cs fs ps
  unfolding stretch_counts
  long_by whole e n =
      let c = sym e ∙ n in
      let k : r.first + r.checkpoints ≤ b = leb-true _ _ (test _ c 0) in
      let h : r.parts ≤ r.checkpoints = leb-true _ _ (test _ c 2) in
      let f : r.frames ≤ r.parts = leb-true _ _ (test _ c 3) in
      let g = range r.area s.area in
      let m : boundaries r.area r.interval ≤ r.area.end - r.area.start =
      boundaries_small r.area r.interval (interval_pos r.interval r.budget s.numbers) in
      let i = s.is in let e' = g.end in
      record {
        area = s.area;
        checkpoints = within24 _ _ _ (let l : r.checkpoints ≤ b = omega arith in l) s.checkpoints;
        frames = within8 _ _ _ (let l : r.frames ≤ b = omega arith in l) s.frames;
        parts = within24 _ _ _ (let l : r.parts ≤ b = omega arith in l) s.parts;
        few = omega arith;
      }

-- ---- 4
module _ (r : Recorder) (t : RecorderTables) where
  pub stretch_are : {steps filling held ending : Bool} {e : Option EndState} → steps ≡ checkpoints_ok r.interval r.first (recorder_in r t).checkpoints
      → filling ≡ frames_ok r.area r.budget (recorder_in r t).frames
      → held ≡ parts_ok r.area r.interval r.first (recorder_in r t).checkpoints (recorder_in r t).frames (recorder_in r t).parts
      → e ≡ end_of r.mode → ending ≡ ending_ok r.area (recorder_in r t).checkpoints e → (steps && (filling && (held && ending))) ≡ stretch_in r t
  unfolding stretch_in held_ok all
  stretch_are a b c d e = rw (a, b, c, e, d) (simp (and-true, and_assoc))

  -- counts first, then sections and kinds
  pub held_is : recorder_held r t
      ≡ (stretch_counts (boundaries r.area r.interval) r.first r.checkpoints (is_some (end_of r.mode)) r.frames r.parts
      && (stretch_in r t && recorder_kinds r t))
  unfolding recorder_held recorder_question4 stretch_counts stretch_in all
  held_is =
      rw (records_length 24 decode_checkpoint r.checkpoints t.checkpoints, count r.frames t.frames t.store, records_length 24 decode_held r.parts t.parts)
      (simp (and-true, and_assoc))

  module _ {b : ℕ} {whole q : Bool} (i : b ≡ boundaries r.area r.interval) (w : whole ≡ is_some (end_of r.mode))
      (e : q ≡ stretch_counts b r.first r.checkpoints whole r.frames r.parts) where
    asked : recorder_held r t ≡ (q && (stretch_in r t && recorder_kinds r t))
    asked = held_is ∙ rw (e, i, w)

    pub held_no : q ≡ false → false ≡ recorder_held r t
    held_no n = sym (asked ∙ rw n)

    pub held_yes : {x y : Bool} → q ≡ true → x ≡ stretch_in r t → y ≡ recorder_kinds r t → (x && y) ≡ recorder_held r t
    held_yes n g k = rw (g, k) (sym (asked ∙ rw n))

  -- ---- 1 to 4
  pub refusal_is : recorder_refusal r t
      ≡ first_no
      (ask (area_ok r.area) 1 ∷ ask (numbers_ok r.interval r.budget) 2
      ∷ ask (scan_space (boundaries r.area r.interval) r.budget t.checkpoints t.frames t.store t.parts) 3 ∷ ask (recorder_held r t) 4 ∷ [])
  unfolding recorder_refusal recorder_question1 recorder_question2 recorder_question3 scan_space scan_room recorder_held
  refusal_is = one_bits (recorder_kinds r t) _ _ _ _

  module _ {a : Bool} (p : a ≡ area_ok r.area) where
    pub no_1 : not a ≡ true → 1 ≡ recorder_refusal r t
    unfolding first_no
    no_1 n = sym (refusal_is ∙ rw (← p, not-true a n))

    module _ (m : not a ≡ false) {c : Bool} (q : c ≡ numbers_ok r.interval r.budget) where
      pub no_2 : not c ≡ true → 2 ≡ recorder_refusal r t
      unfolding first_no
      no_2 n = sym (refusal_is ∙ rw (← p, not-false a m, ← q, not-true c n))

      module _ (k : not c ≡ false) {b : ℕ} (i : b ≡ boundaries r.area r.interval) {d : Bool}
          (s : d ≡ scan_space b r.budget t.checkpoints t.frames t.store t.parts) where
        pub no_3 : not d ≡ true → 3 ≡ recorder_refusal r t
        unfolding first_no
        no_3 n = sym (refusal_is ∙ rw (← i, ← p, not-false a m, ← q, not-false c k, ← s, not-true d n))

        module _ (l : not d ≡ false) where
          pub roomy : Roomy b r t
          roomy = record { is = i; area = sym p ∙ not-false a m; numbers = sym q ∙ not-false c k; room = sym s ∙ not-false d l }

          module _ {h : Bool} (g : h ≡ recorder_held r t) where
            pub no_4 : not h ≡ true → 4 ≡ recorder_refusal r t
            unfolding first_no
            no_4 n = sym (refusal_is ∙ rw (← i, ← p, not-false a m, ← q, not-false c k, ← s, not-false d l, ← g, not-true h n))

            pub no_0 : not h ≡ false → 0 ≡ recorder_refusal r t
            unfolding first_no
            no_0 n = sym (refusal_is ∙ rw (← i, ← p, not-false a m, ← q, not-false c k, ← s, not-false d l, ← g, not-false h n))
