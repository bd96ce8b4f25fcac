-- Question 12 by tests on what is not yet joined. Assumes nothing.
use Rattle.std.specs.Prelude.{Option}
use mathlib.Core.Path.{◌≡◌, refl}
use mathlib.Core.Bool.{Bool, true}
use mathlib.Core.Logic.{⊎_elim}
use mathlib.Core.List.{List, [], ◌∷◌, ◌++◌}
use Prim.Native.Nat.{ℕ, ◌+◌, ◌-◌, ◌≤◌, min}
use native.Mathlib.Nat.{add-zero}
use native.Mathlib.Omega.{arith}
use lib.Dec.{leb, eqb}
use lib.ListN.{length, take, drop, get_or, length-append, length-drop, take-append-drop}
use lib.Seq.{get_or-drop, length-take-le}
use borrow.Author.Tests.{leb-true, le-leb, leb-false}
use Rattle.field.specs.Number.{same_bytes}
use Rattle.rules.specs.declared.Checkpoint.{Checkpoint}
use Rattle.rules.specs.Tests.{all, walk, is_some}
use Rattle.rules.specs.Values.{Scan, Index, Recorder, max_malformed, max32, no_checkpoint, checkpoint_at, last_checkpoint, boundaries, count, counted}
use Rattle.rules.specs.Sections.{Passed, begun, passed, checkpoint_ok, checkpoints_ok, ending_ok, malformed_ok, rising, own_lsn, any_lsn}
use Rattle.rules.specs.Questions.{scan_ok, hinting_ok, question4, end_of}
use Rattle.rules.specs.Record.{question12, joined, moves}
use Rattle.rules.proofs.Tests.{test, or_left, or_right, or_cases, all→, →all, same_test}
use Rattle.rules.proofs.Walk.{arrived, walk_none, walk_cons, walk_head, walk_tail, walk_right, walk_join, walk_at, arrived_none}
use Rattle.laws.proofs.scans.Scans.{checkpoint→, →checkpoint, checkpoints_walk, passed_number, passed_last, StretchIs, RecorderIs, ScanIs, scan→, →scan}
use Rattle.laws.proofs.scans.Merge.{index_takes}
use Rattle.laws.specs.Twelve.{common, not_below, continues, taken_below, list_ok, joined_ok}
use Rattle.laws.proofs.absorbing.Rising.{taken_rises, rising_first}
use Rattle.laws.proofs.scans.Absorb.{joined_full}

-- ---- checkpoints
not_below→ : (c d : Checkpoint) → not_below c d ≡ true → (c.threshold ≤ d.threshold) × (c.malformed ≤ d.malformed)
unfolding not_below
not_below→ c d e = let h = all→ _ e in (leb-true _ _ h.0, leb-true _ _ h.1.0)

→not_below : (c d : Checkpoint) → c.threshold ≤ d.threshold → c.malformed ≤ d.malformed → not_below c d ≡ true
unfolding not_below
→not_below c d t m = →all _ (le-leb _ _ t, (le-leb _ _ m, tt))

-- a stretch may follow another state of the same number, which its first checkpoint is not below
follow : (k : ℕ) (s t : Passed) (cs : List Checkpoint) → walk (checkpoint_ok k) passed s cs ≡ true → (1 ≤ length cs → s.number ≡ t.number)
    → (1 ≤ length cs → (t.threshold ≤ (checkpoint_at cs 0).threshold) × (t.malformed ≤ (checkpoint_at cs 0).malformed)) → walk (checkpoint_ok k) passed t cs ≡ true
follow k s t [] w n h = walk_none _ _ t
follow k s t (c ∷ cs) w n h =
    let a = checkpoint→ k s c (walk_head _ _ s c cs w) in let l : 1 ≤ length (c ∷ cs) = omega arith in
    let e : s.number ≡ t.number = n l in
    walk_cons _ _ t c cs
    (→checkpoint k t c
    (record { rises = (h l).0; threshold = a.threshold; counts = (h l).1; malformed = rw e at a.malformed; back = rw e at a.back }))
    (rw e at (walk_tail _ _ s c cs w))

module _ (k first : ℕ) (cs ds : List Checkpoint) (joins : first ≤ length cs) (ok : checkpoints_ok k 0 cs ≡ true) (ok' : checkpoints_ok k first ds ≡ true) where
  abbrev i : ℕ
  i = length cs - first

  -- the further checkpoints, after their own
  rest_walk : walk (checkpoint_ok k) passed (arrived passed (begun first) (take i ds)) (drop i ds) ≡ true
  rest_walk =
      walk_right (checkpoint_ok k) passed (begun first) (take i ds) (drop i ds) (rw (take-append-drop i ds) (rw (checkpoints_walk k first ds) at ok'))

  pub →continued : continues cs i ds ≡ true → checkpoints_ok k 0 (cs ++ drop i ds) ≡ true
  unfolding continues
  →continued e =
      let p = passed_last 0 cs in let l = length-drop i ds in
      rw (checkpoints_walk k 0 (cs ++ drop i ds))
      (walk_join (checkpoint_ok k) passed (begun 0) cs (drop i ds) (rw (checkpoints_walk k 0 cs) at ok)
      (follow k (arrived passed (begun first) (take i ds)) (arrived passed (begun 0) cs) (drop i ds) rest_walk
      (λ h. omega (arith, passed_number (begun first) (take i ds), passed_number (begun 0) cs, length-take-le i ds (omega arith)))
      (λ h.
      let q = not_below→ (last_checkpoint cs) (checkpoint_at ds i)
      (⊎_elim (λ z. let y = leb-true (length ds) i z in let f : ⊥ = omega arith in absurd f) (λ z. z) (or_cases (leb (length ds) i) _ e)) in
      rw (p.0, p.1, get_or-drop i ds 0 no_checkpoint, add-zero i) q)))

  pub continued→ : checkpoints_ok k 0 (cs ++ drop i ds) ≡ true → continues cs i ds ≡ true
  unfolding continues
  continued→ e =
      let p = passed_last 0 cs in let l = length-drop i ds in
      test (leb (length ds) i) (λ t. or_left {a = leb (length ds) i} _ t)
      (λ t.
      let n = leb-false (length ds) i t in
      let s = arrived passed (begun 0) cs in
      let w = walk_right (checkpoint_ok k) passed (begun 0) cs (drop i ds) (rw (checkpoints_walk k 0 (cs ++ drop i ds)) at e) in
      let o = walk_at (checkpoint_ok k) passed no_checkpoint s (drop i ds) 0 w (omega arith) in
      let h = checkpoint→ k s (checkpoint_at ds i) (rw (arrived_none passed s, get_or-drop i ds 0 no_checkpoint, add-zero i) at o) in
      or_right (leb (length ds) i) (→not_below (last_checkpoint cs) (checkpoint_at ds i) (rw (← p.0) h.rises) (rw (← p.1) h.counts)))

-- ---- the joined list
module _ (x : Scan) (r : Recorder) (ok : ScanIs x) (ok' : RecorderIs r) (ea : r.area ≡ x.area) (ei : r.interval ≡ x.interval) (joins : r.first ≤ count x) where
  theirs : StretchIs x.area x.interval r.budget r.first r.checkpoints r.frames r.parts (end_of r.mode)
  theirs = rw (ea, ei) at ok'

  module _ (ms w : List ℕ) (taken : w ≡ taken_below x r ms) where
    joined_is : list_ok x r ms w ≡ true → continues x.checkpoints (common x r) r.checkpoints ≡ true → ending_ok x.area (joined x r []).checkpoints (joined x r []).ending ≡ true
        → ScanIs (joined x r w)
    unfolding list_ok malformed_ok
    joined_is ls cs es =
        let s = ok.stretch in let t = theirs in let g = all→ _ ls in
        let u = s.within in let u' = t.within in
        let n = length-append x.checkpoints (drop (count x - r.first) r.checkpoints) in let l = length-drop (count x - r.first) r.checkpoints in
        let low : x.area.start ≤ get_or (taken_below x r ms) 0 x.area.start = rw taken at (leb-true x.area.start (get_or w 0 x.area.start) g.1.1.1.0) in
        let whole : is_some x.ending ≡ true → count x ≡ boundaries x.area x.interval = λ z. let y = s.full z in omega arith in
        record {
          stretch =
              record {
                within = omega arith;
                full = λ z. let y = joined_full (count x) (length r.checkpoints) r.first _ x.ending (end_of r.mode) joins (omega arith) u' whole t.full z in omega arith;
                checkpoints = →continued x.interval r.first x.checkpoints r.checkpoints joins s.checkpoints t.checkpoints cs;
                held =
                    (index_takes (λ i c. Unit {0}) x.area x.interval x.budget r.budget r.first x.checkpoints r.checkpoints r.frames r.parts
                    (record { frames = x.frames; parts = x.parts }) s.held t.held joins (λ i z. tt) (λ i z. tt)).held;
                ending = es;
              };
          malformed =
              →all _ (
                g.1.1.0,
                (rw taken (taken_rises _ (max32 + 1) max_malformed x.area.start ms g.0 low), tt),
              );
        }

    -- what is asked of the joined list is what is asked of its pieces
    pub joined_tests : (hs : Bool) → hs ≡ true
        → all (rising own_lsn any_lsn 0 (max32 + 1) ms ∷ same_bytes (take (length x.malformed) ms) x.malformed
        ∷ eqb (length w) (min (counted (joined x r []).checkpoints (joined x r []).ending) max_malformed) ∷ all (scan_ok (joined x r w) ∷ hs ∷ []) ∷ [])
        ≡ all (list_ok x r ms w ∷ continues x.checkpoints (common x r) r.checkpoints
        ∷ ending_ok x.area (joined x r []).checkpoints (joined x r []).ending ∷ [])
    unfolding list_ok malformed_ok
    joined_tests hs h =
        same_test _ _
        (λ e.
        let a = all→ _ e in
        let j = scan→ (joined x r w) (all→ (scan_ok (joined x r w) ∷ hs ∷ []) a.1.1.1.0).0 in
        let m = all→ _ j.malformed in
        →all _ (
          →all _ (a.0, (a.1.0, (a.1.1.0, (le-leb _ _ (rising_first x.area.start _ w m.1.0), tt)))),
          (
            continued→ x.interval r.first x.checkpoints r.checkpoints joins ok.stretch.checkpoints theirs.checkpoints j.stretch.checkpoints,
            (j.stretch.ending, tt),
          ),
        ))
        (λ e.
        let a = all→ _ e in let b = all→ _ a.0 in
        →all _ (b.0, (b.1.0, (b.1.1.0, (→all _ (→scan (joined x r w) (joined_is a.0 a.1.0 a.1.1.0), (h, tt)), tt)))))

-- question 12, where 4 holds of both, and 9 and 10 hold
pub twelve_is : (x : Index) (r : Recorder) (image : Option ℕ) (ms : List ℕ) → question4 x ≡ true → RecorderIs r → r.area ≡ x.scan.area → r.interval ≡ x.scan.interval
    → r.first ≤ count x.scan → question12 x r image ms ≡ joined_ok x.scan r ms
unfolding question4 question12 joined_ok
twelve_is x r image ms q ok' ea ei j =
    let a = all→ _ q in
    test (moves x.scan r)
    (λ t. rw t (joined_tests x.scan r (scan→ x.scan a.0) ok' ea ei j ms (taken_below x.scan r ms) refl (hinting_ok x.scan.area x.fingerprint x.hinting) a.1.0))
    (λ t. rw t refl)
