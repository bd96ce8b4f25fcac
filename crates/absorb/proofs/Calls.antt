-- What absorb answers, by the number that refuses. Assumes nothing.
use Rattle.std.specs.Prelude.{Option, ℕ}
use mathlib.Core.Path.{◌≡◌, refl, sym, ap, ◌∙◌}
use mathlib.Core.Bool.{Bool, true, false, ◌&&◌, cond}
use mathlib.Core.List.{List}
use Prim.Native.Nat.{ℕ, ◌+◌, ◌≤◌}
use native.Mathlib.Omega.{arith}
use borrow.Author.Tests.{eq-eqb, ne_eqb, eqb-true, ltb-true, leb-true}
use lib.Dec.{eqb, leb, ltb}
use Rattle.field.proofs.Records.{records_length}
use Rattle.rules.specs.declared.AreaIndex.{AreaIndex}
use Rattle.rules.specs.declared.Mode.TheVariants.{Stopped}
use Rattle.rules.specs.declared.Recorder.{Recorder}
use Rattle.rules.specs.Values.{Index}
use Rattle.rules.specs.Values as values
use Rattle.rules.specs.File.{decode_checkpoint, decode_held}
use Rattle.rules.specs.Record.{absorb, absorb_number, absorbed_by, emptied, is_stopped, with_mode}
use Rattle.rules.proofs.Tests.{test, choose, and_left, and_right}
use Rattle.tables.specs.Index.{Tables, tables, room_of, index_in, kinds_in, kinded_number, or_four}
use Rattle.tables.specs.Lent.{TableBytes}
use Rattle.index.proofs.Back.{numbers_back}
use Rattle.index.proofs.Lent.{put_back}
use Rattle.index.proofs.Questions.{passes}
use Rattle.parts.proofs.Frames.{count}
use Rattle.tables.specs.Recorder.{RecorderTables, recorder_room, recorder_in, recorder_kinds, recorder_from}
use Rattle.recorder.specs.Recorder.{mode_of}
use Rattle.recorder.proofs.Calls.{passes_long}
use Rattle.tables.specs.Tables.{given_in}
use Rattle.absorb.specs.Steps.{absorb_refusal, Absorbs, Written, written, Kept, absorbed_in, drained_of}
use Rattle.absorb.proofs.refusal.Refusal.{passed}
use Rattle.absorb.proofs.committed.Facts.{kept}
use Rattle.absorb.specs.Absorb.{absorbed_out, absorbed, kinded_both, absorbed_out_of, absorb_in}

-- ---- the number with the kind bytes
four_some : (n : ℕ) → (1 ≤ or_four n) × (or_four n ≤ 4)
unfolding or_four
four_some n =
    choose (λ (m : ℕ). (1 ≤ m) × (m ≤ 4)) (ltb 0 n && leb n 3) n 4
    (λ e. let a = ltb-true 0 n (and_left (ltb 0 n) (leb n 3) e) in let b = leb-true n 3 (and_right (ltb 0 n) (leb n 3) e) in (omega arith, omega arith))
    (λ e. (omega arith, omega arith))

module _ (x : Index) (r : values.Recorder) (image : Option ℕ) (ms : List ℕ) where
  number_by : (n : ℕ) → (absorbed_by n x r image ms).number ≡ n
  number_by n =
      test (eqb n 0)
      (λ e. rw e (test (is_stopped r.mode) (λ s. rw s (sym (eqb-true n 0 e))) (λ s. rw s (sym (eqb-true n 0 e)))))
      (λ e. rw e refl)

  kinded_by : (ok : Bool) (n : ℕ) → kinded_both ok x r (absorbed_by n x r image ms) ≡ absorbed_by (kinded_number ok n) x r image ms
  unfolding kinded_both kinded_number
  kinded_by true n = refl
  kinded_by false n =
      let f = four_some n in let a = f.0 in let b = f.1 in
      rw (number_by n, ne_eqb (or_four n) 0 (λ z. omega arith), ne_eqb (or_four n) 8 (λ z. omega arith))

-- ---- the recorder's numbers
module _ (r : Recorder) (u : RecorderTables) where
  recorder_back : recorder_from (recorder_in r u) ≡ r
  recorder_back =
      rw (records_length 24 decode_checkpoint r.checkpoints u.checkpoints, count r.frames u.frames u.store, records_length 24 decode_held r.parts u.parts)

  stopped_is : recorder_from (with_mode (recorder_in r u) Stopped) ≡ mode_of r Stopped
  unfolding mode_of
  stopped_is =
      rw (records_length 24 decode_checkpoint r.checkpoints u.checkpoints, count r.frames u.frames u.store, records_length 24 decode_held r.parts u.parts)

  drained_is : recorder_from (emptied (recorder_in r u)) ≡ drained_of r
  unfolding drained_of
  drained_is = rw (records_length 24 decode_checkpoint r.checkpoints u.checkpoints)

  refused_is : (n : ℕ) → recorder_from (cond (eqb n 8) (with_mode (recorder_in r u) Stopped) (recorder_in r u)) ≡ cond (eqb n 8) (mode_of r Stopped) r
  refused_is n = test (eqb n 8) (λ e. rw e stopped_is) (λ e. rw e recorder_back)

-- ---- the call
module _ (x : AreaIndex) (t : Tables) (image : Option ℕ) (given : List ℕ) (r : Recorder) (u : RecorderTables) {n : ℕ} (e : n ≡ absorb_refusal x t image given r u) where
  by_number : absorb_in x t image given r u ≡ absorbed_out_of t (absorbed_by n (index_in x t) (recorder_in r u) image (given_in given))
  unfolding absorb_in absorb absorb_refusal
  by_number =
      rw (kinded_by (index_in x t) (recorder_in r u) image (given_in given) (kinds_in x t && recorder_kinds r u) (absorb_number (room_of t) (index_in x t) (recorder_room u) (recorder_in r u) image (given_in given)), ← e)

  pub absorb_refused : {q : Recorder} → (n ≡ 0 → ⊥) → q ≡ cond (eqb n 8) (mode_of r Stopped) r → absorbed_out (absorbed n x q) t ≡ absorb_in x t image given r u
  unfolding absorbed_out_of
  absorb_refused h p = rw p (sym (by_number ∙ rw (ne_eqb n 0 h, ne_eqb n 0 h, numbers_back x t, refused_is r u n)))

  module _ (z : n ≡ 0) where
    both_pass : absorb_refusal x t image given r u ≡ 0
    both_pass = sym e ∙ z

    pub absorb_stopped : {q : Recorder} → TableBytes t → is_stopped r.mode ≡ true → q ≡ cond (eqb n 8) (mode_of r Stopped) r → absorbed_out (absorbed n x q) t ≡ absorb_in x t image given r u
    unfolding absorbed_out_of
    absorb_stopped {q} b s p =
        let is : q ≡ r = p ∙ rw z in
        rw (is, z) (sym (by_number ∙ rw (eq-eqb n 0 z, s, numbers_back x t, recorder_back r u, put_back (passes x t (passed x t image given r u both_pass).0) b)))

    module _ (brings : is_stopped r.mode ≡ false) where
      pub absorbs : Absorbs x t image given r u
      absorbs = record { accepted = both_pass; brings = brings }

      -- the number of the recorder's next checkpoint
      pub few : r.first + r.checkpoints ≤ 4294967295
      few = (passes_long r u refl (passed x t image given r u both_pass).1).few

      pub absorb_done : {s : Recorder} {y : AreaIndex} {cs fs st ps ms : List ℕ} → TableBytes t → s ≡ drained_of r
          → ((hints confirmed : List ℕ) → Kept x hints confirmed
          → written y (tables cs fs st ps ms hints confirmed) ≡ absorbed_in x (tables t.checkpoints t.frames t.store t.parts t.malformed hints confirmed) r u image given)
          → absorbed_out (absorbed 0 y s) (tables cs fs st ps ms t.hints t.confirmed) ≡ absorb_in x t image given r u
      unfolding absorbed_out_of absorbed_in
      absorb_done {s = s} b d w =
          let v = w t.hints t.confirmed (kept absorbs b.hints b.confirmed) in
          ap (λ (i : Written). absorbed_out (absorbed 0 i.index s) i.tables) v ∙ rw d (sym (by_number ∙ rw (eq-eqb n 0 z, brings, drained_is r u)))
