-- Question 4 of a scan and of a recorder, as facts. Assumes nothing.
use Rattle.std.specs.Prelude.{Option}
use mathlib.Core.Path.{◌≡◌, refl}
use mathlib.Core.Bool.{Bool, true, ◌||◌, not}
use mathlib.Core.Logic.{⊎_elim}
use mathlib.Core.List.{List, [], ◌∷◌, ◌++◌}
use Prim.Native.Nat.{ℕ, suc, ◌+◌, ◌-◌, ◌*◌, ◌/◌, ◌<◌, ◌≤◌, min}
use native.Mathlib.Nat.{le-div_iff_mul-le, suc-mul, min-le_right}
use native.Mathlib.Omega.{arith}
use lib.Dec.{eqb}
use lib.ListN.{length}
use borrow.Author.Tests.{eqb-true, leb-true, eq-eqb, le-leb}
use Rattle.rules.specs.declared.Area.{Area}
use Rattle.rules.specs.declared.Checkpoint.{Checkpoint}
use Rattle.rules.specs.declared.EndState.{EndState}
use Rattle.rules.specs.declared.Held.{Held}
use Rattle.rules.specs.Tests.{walk, is_some}
use Rattle.rules.specs.Values.{Frame, Scan, Index, Recorder, lim, max_malformed, no_checkpoint, last_checkpoint, boundaries, lsn_of, count, complete, frontier, counted}
use Rattle.rules.specs.Sections.{counts_ok, Passed, begun, passed, checkpoint_ok, checkpoints_ok, ending_ok, malformed_ok}
use Rattle.rules.specs.Questions.{scan_ok, question4, recorder_question4, end_of}
use Rattle.rules.proofs.Tests.{test, implied, all→, →all, or_left, or_right}
use Rattle.rules.proofs.Walk.{Snoc, ends, last_or_none, last_or_snoc, arrived, arrived_none, arrived_snoc, walk_snoc}
use Rattle.laws.proofs.scans.Parts.{HeldIs, held→, →held, held_counts}

-- ---- boundaries: the checkpoints that lie in the area
module _ (a : Area) (k j : ℕ) (pos : 1 ≤ k) where
  pub boundary_in : lsn_of a k j < a.end → j < boundaries a k
  unfolding boundaries
  boundary_in l =
      let x : suc j * k ≤ a.end - a.start + k - 1 = rw suc-mul (omega arith) in
      let y = (le-div_iff_mul-le {k = k} {x = suc j} {y = a.end - a.start + k - 1} pos).1 x in omega arith

  pub in_boundary : j < boundaries a k → lsn_of a k j < a.end
  unfolding boundaries
  in_boundary l =
      let x = (le-div_iff_mul-le {k = k} {x = suc j} {y = a.end - a.start + k - 1} pos).0 (let l' : suc j ≤ (a.end - a.start + k - 1) / k = omega arith in l') in
      let y = rw suc-mul at x in omega arith

-- ---- checkpoints
pub passed_number : (s : Passed) (cs : List Checkpoint) → (arrived passed s cs).number ≡ s.number + length cs
unfolding arrived
passed_number s [] = omega arith
passed_number s (c ∷ cs) = omega (arith, passed_number (passed s c) cs)

-- threshold and malformed count of the last
pub passed_last : (first : ℕ) (cs : List Checkpoint)
    → ((arrived passed (begun first) cs).threshold ≡ (last_checkpoint cs).threshold) × ((arrived passed (begun first) cs).malformed ≡ (last_checkpoint cs).malformed)
passed_last first cs =
    ⊎_elim (λ (z : cs ≡ []). rw (z, arrived_none passed (begun first), last_or_none no_checkpoint) (refl, refl))
    (λ (s : Snoc cs). rw (s.is, arrived_snoc passed (begun first) s.init s.last, last_or_snoc no_checkpoint s.init s.last) (refl, refl))
    (ends cs)

pub record CheckpointIs (k : ℕ) (s : Passed) (c : Checkpoint) : Type 0 where
  pub rises : s.threshold ≤ c.threshold
  pub threshold : c.threshold ≤ lim
  pub counts : s.malformed ≤ c.malformed
  pub malformed : c.malformed ≤ s.number * k
  pub back : c.back ≤ s.number * k

pub checkpoint→ : (k : ℕ) (s : Passed) (c : Checkpoint) → checkpoint_ok k s c ≡ true → CheckpointIs k s c
unfolding checkpoint_ok
checkpoint→ k s c e =
    let h = all→ _ e in
    record {
      rises = leb-true _ _ h.0;
      threshold = leb-true _ _ h.1.0;
      counts = leb-true _ _ h.1.1.0;
      malformed = leb-true _ _ h.1.1.1.0;
      back = leb-true _ _ h.1.1.1.1.0;
    }

pub →checkpoint : (k : ℕ) (s : Passed) (c : Checkpoint) → CheckpointIs k s c → checkpoint_ok k s c ≡ true
unfolding checkpoint_ok
→checkpoint k s c h =
    →all _ (le-leb _ _ h.rises, (le-leb _ _ h.threshold, (le-leb _ _ h.counts, (le-leb _ _ h.malformed, (le-leb _ _ h.back, tt)))))

-- the rule of checkpoints is a walk
pub checkpoints_walk : (k first : ℕ) (cs : List Checkpoint) → checkpoints_ok k first cs ≡ walk (checkpoint_ok k) passed (begun first) cs
unfolding checkpoints_ok
checkpoints_walk k first cs = refl

-- the next checkpoint
pub checkpoints_snoc : (k first : ℕ) (cs : List Checkpoint) (c : Checkpoint) → checkpoints_ok k first cs ≡ true → (last_checkpoint cs).threshold ≤ c.threshold → c.threshold ≤ lim
    → (last_checkpoint cs).malformed ≤ c.malformed → c.malformed ≤ (first + length cs) * k → c.back ≤ (first + length cs) * k → checkpoints_ok k first (cs ++ (c ∷ [])) ≡ true
checkpoints_snoc k first cs c e t t' m m' b =
    let n = passed_number (begun first) cs in let l = passed_last first cs in
    rw (checkpoints_walk k first (cs ++ (c ∷ [])))
    (walk_snoc (checkpoint_ok k) passed (begun first) cs c (rw (checkpoints_walk k first cs) at e)
    (→checkpoint k (arrived passed (begun first) cs) c
    (record { rises = rw l.0 t; threshold = t'; counts = rw l.1 m; malformed = rw n m'; back = rw n b })))

-- ---- a stretch of checkpoints from number first on, with its parts and end state
pub record StretchIs (a : Area) (k budget first : ℕ) (cs : List Checkpoint) (fs : List Frame) (ps : List Held) (e : Option EndState) : Type 0 where
  pub within : first + length cs ≤ boundaries a k
  pub full : is_some e ≡ true → first + length cs ≡ boundaries a k
  pub checkpoints : checkpoints_ok k first cs ≡ true
  pub held : HeldIs a k budget first cs fs ps
  pub ending : ending_ok a cs e ≡ true

-- complete only at the last boundary
full→ : (n b : ℕ) (whole : Bool) → (not whole || eqb n b) ≡ true → whole ≡ true → n ≡ b
full→ n b whole e w = eqb-true n b (implied whole (eqb n b) e w)

→full : (n b : ℕ) (whole : Bool) → (whole ≡ true → n ≡ b) → (not whole || eqb n b) ≡ true
→full n b whole f = test whole (λ w. or_right (not whole) (eq-eqb n b (f w))) (λ w. or_left {a = not whole} (eqb n b) (rw w))

abbrev pub RecorderIs : Recorder → Type 0
RecorderIs r = StretchIs r.area r.interval r.budget r.first r.checkpoints r.frames r.parts (end_of r.mode)

pub recorder→ : (r : Recorder) → recorder_question4 r ≡ true → RecorderIs r
unfolding recorder_question4
recorder→ r e =
    let h = all→ _ e in
    record {
      within = leb-true _ _ h.0;
      full = full→ _ _ _ h.1.0;
      checkpoints = h.1.1.1.1.0;
      held = held→ _ _ _ _ _ _ _ h.1.1.1.1.1.0;
      ending = h.1.1.1.1.1.1.0;
    }

pub →recorder : (r : Recorder) → RecorderIs r → recorder_question4 r ≡ true
unfolding recorder_question4
→recorder r h =
    let c = held_counts _ _ _ _ _ _ _ h.held in
    →all _
    (le-leb _ _ h.within, (→full _ _ _ h.full, (le-leb _ _ c.1, (le-leb _ _ c.0, (h.checkpoints, (→held _ _ _ _ _ _ _ h.held, (h.ending, tt)))))))

-- the scan's part of an index's question 4
pub scan_of : (x : Index) → question4 x ≡ true → scan_ok x.scan ≡ true
unfolding question4
scan_of x e = (all→ _ e).0

pub record ScanIs (x : Scan) : Type 0 where
  pub stretch : StretchIs x.area x.interval x.budget 0 x.checkpoints x.frames x.parts x.ending
  pub malformed : malformed_ok x.area (frontier x) (counted x.checkpoints x.ending) x.malformed ≡ true

pub scan→ : (x : Scan) → scan_ok x ≡ true → ScanIs x
unfolding scan_ok counts_ok
scan→ x e =
    let h = all→ _ e in let c = all→ _ h.0 in
    let w = leb-true (count x) (boundaries x.area x.interval) c.0 in let f = full→ (count x) (boundaries x.area x.interval) (complete x) c.1.0 in
    record {
      stretch =
          record { within = omega arith; full = λ z. let y = f z in omega arith; checkpoints = h.1.0; held = held→ _ _ _ _ _ _ _ h.1.1.0; ending = h.1.1.1.0 };
      malformed = h.1.1.1.1.0;
    }

-- as many malformed LSNs as are counted, at most 4,096
pub malformed_length : (a : Area) (front n : ℕ) (ms : List ℕ) → malformed_ok a front n ms ≡ true → length ms ≡ min n max_malformed
unfolding malformed_ok
malformed_length a front n ms e = eqb-true _ _ (all→ _ e).0

pub →scan : (x : Scan) → ScanIs x → scan_ok x ≡ true
unfolding scan_ok counts_ok
→scan x h =
    let s = h.stretch in let c = held_counts _ _ _ _ _ _ _ s.held in let w = s.within in
    let m = malformed_length _ _ _ _ h.malformed in
    →all _ (
      →all _ (
        le-leb (count x) (boundaries x.area x.interval) (omega arith),
        (
          →full (count x) (boundaries x.area x.interval) (complete x) (λ z. let y = s.full z in omega arith),
          (le-leb _ _ c.1, (le-leb _ _ c.0, (le-leb (length x.malformed) max_malformed (omega (arith, min-le_right (counted x.checkpoints x.ending) max_malformed)), tt))),
        ),
      ),
      (s.checkpoints, (→held _ _ _ _ _ _ _ s.held, (s.ending, (h.malformed, tt)))),
    )
