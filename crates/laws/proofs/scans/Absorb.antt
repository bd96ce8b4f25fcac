-- Absorbing keeps question 4, also where the frontier does not move. Assumes nothing.
use Rattle.std.specs.Prelude.{Option, None, Some}
use mathlib.Core.Path.{◌≡◌, refl, sym, ap, ◌∙◌}
use mathlib.Core.Bool.{Bool, true, false, ◌||◌}
use mathlib.Core.Logic.{⊎_elim}
use mathlib.Core.List.{List, [], ◌++◌, append-nil}
use Prim.Native.Nat.{ℕ, ◌+◌, ◌-◌, ◌*◌, ◌<◌, ◌≤◌, min}
use native.Mathlib.Nat.{zero-mul, min-le_left, le_of_mul-le-mul_right, eq-or-lt_of_le}
use native.Mathlib.Omega.{arith}
use lib.ListN.{length, take, drop, length-append, length-drop}
use borrow.Author.Tests.{eqb-true, leb-true, ltb-false}
use Rattle.rules.specs.declared.Area.{Area}
use Rattle.rules.specs.declared.Checkpoint.{Checkpoint}
use Rattle.rules.specs.declared.EndState.{EndState}
use Rattle.rules.specs.Tests.{is_some, or_else, agree}
use Rattle.rules.specs.Values.{Scan, Index, Recorder, Lengths, max_malformed, last_checkpoint, boundaries, lsn_of, frontier_of, frontier, counted, count, same_end}
use Rattle.rules.specs.Sections.{begun, passed, checkpoint_ok, checkpoints_ok, end_ok, ending_ok, malformed_ok, rising}
use Rattle.rules.specs.Questions.{scan_ok, question1, question2, question4, recorder_question1, recorder_question2, recorder_question4, end_of}
use Rattle.rules.specs.Record.{question9, question10, question11, question12, below, joined, moves, absorbed_index, is_stopped, absorb_number}
use Rattle.laws.specs.Kept.{Sound, SoundIndex}
use Rattle.rules.proofs.Tests.{test, never, choose, nil_of, and_left, and_right, or_cases, implied, all→, →all, asked, agree_eq}
use Rattle.rules.proofs.Walk.{Snoc, ends, length_snoc, last_or_none, last_or_snoc, arrived, walk_none, walk_last}
use Rattle.rules.proofs.Same.{same_end_eq, same_area_eq}
use Rattle.rules.proofs.Frontier.{frontier_open}
use Rattle.laws.proofs.scans.Scans.{in_boundary, passed_number, checkpoint→, checkpoints_walk, StretchIs, RecorderIs, recorder→, ScanIs, scan→, →scan, malformed_length}
use Rattle.laws.proofs.scans.Merge.{index_takes}
use Rattle.laws.proofs.scans.Record.{interval_pos}

-- what frames and parts have no say in
record ReadIs (a : Area) (k : ℕ) (cs : List Checkpoint) (e : Option EndState) (ms : List ℕ) : Type 0 where
  checkpoints : checkpoints_ok k 0 cs ≡ true
  ending : ending_ok a cs e ≡ true
  malformed : malformed_ok a (frontier_of a k (length cs) e) (counted cs e) ms ≡ true

-- nothing is appended
append_none : {A : Type 0} (xs ys : List A) → length ys ≡ 0 → xs ++ ys ≡ xs
append_none xs ys e = ap (λ (l : List _). xs ++ l) (nil_of ys e) ∙ append-nil xs

-- checkpoint 0 counts no malformed LSN
first_count : (k : ℕ) (cs : List Checkpoint) → checkpoints_ok k 0 cs ≡ true → length cs ≤ 1 → (last_checkpoint cs).malformed ≡ 0
first_count k cs e l =
    ⊎_elim (λ (z : cs ≡ []). rw (z, last_or_none) refl)
    (λ (s : Snoc cs).
    let c = s.last in
    let n : length cs ≡ length s.init + 1 = ap length s.is ∙ length_snoc s.init c in
    let w = walk_last (checkpoint_ok k) passed (begun 0) s.init c (rw s.is at (rw (checkpoints_walk k 0 cs) at e)) in
    let m = (checkpoint→ k (arrived passed (begun 0) s.init) c w).malformed in
    let z : (arrived passed (begun 0) s.init).number ≡ 0 = omega (arith, passed_number (begun 0) s.init) in
    let m' = rw (z, zero-mul) at m in
    rw (s.is, last_or_snoc) (omega arith))
    (ends cs)

-- no malformed LSN is held where none is counted
malformed_none : (a : Area) (front : ℕ) (ms : List ℕ) → length ms ≡ 0 → malformed_ok a front 0 ms ≡ true
unfolding malformed_ok rising
malformed_none a front ms e = rw (nil_of ms e) (→all _ (refl, (walk_none _ _ _, tt)))

-- an index of checkpoints cs and end state e absorbs those of a recorder, ds from number first on and e', and its frontier stays
module _ (a : Area) (k first : ℕ) (cs ds : List Checkpoint) (ms : List ℕ) (pos : 1 ≤ k) (joins : first ≤ length cs) (within : length cs ≤ boundaries a k)
    (within' : first + length ds ≤ boundaries a k) (ok' : checkpoints_ok k first ds ≡ true) where
  still : (e e' : Option EndState) → ReadIs a k cs e ms → ending_ok a ds e' ≡ true → (is_some e ≡ true → length cs ≡ boundaries a k) → (is_some e' ≡ true → first + length ds ≡ boundaries a k)
      → agree same_end e e' ≡ true → frontier_of a k (length (cs ++ drop (length cs - first) ds)) (or_else e' e) ≤ frontier_of a k (length cs) e
      → ReadIs a k (cs ++ drop (length cs - first) ds) (or_else e' e) ms
  unfolding or_else is_some frontier_of counted ending_ok end_ok
  still (Some v) None h x f f' g m =
      let n = f refl in
      rw (append_none cs (drop (length cs - first) ds) (omega (arith, length-drop (length cs - first) ds))) h
  still (Some v) (Some w) h x f f' g m =
      let n = f refl in let e = agree_eq same_end same_end_eq v w g in
      rw (append_none cs (drop (length cs - first) ds) (omega (arith, length-drop (length cs - first) ds)), ← e) h
  still None None h x f f' g m =
      let es = drop (length cs - first) ds in
      let n = length-append cs es in
      let now = frontier_open a k (length (cs ++ es)) in
      let was = frontier_open a k (length cs) in
      let b : length (cs ++ es) - 1 ≤ length cs - 1 = le_of_mul-le-mul_right {m = length (cs ++ es) - 1} {n = length cs - 1} {k = k} (omega arith) pos in
      ⊎_elim
      (λ (z : 0 ≡ length cs).
      let o : first ≡ 0 = omega arith in
      let c : cs ++ es ≡ ds =
      ap (λ (l : List Checkpoint). l ++ es) (nil_of cs (sym z)) ∙ ap (λ (i : ℕ). drop i ds) (let y : length cs - first ≡ 0 = omega arith in y) in
      let l : length ds ≤ 1 = omega (arith, ap length c) in
      let q : checkpoints_ok k 0 ds ≡ true = rw o at ok' in
      let t : (last_checkpoint ds).malformed ≡ (last_checkpoint cs).malformed = first_count k ds q l ∙ sym (first_count k cs h.checkpoints (omega arith)) in
      let u : length ds - 1 ≡ length cs - 1 = omega arith in
      let same : frontier_of a k (length ds) None ≡ frontier_of a k (length cs) None = frontier_open a k (length ds) ∙ ap (lsn_of a k) u ∙ sym was in
      rw c (record { checkpoints = q; ending = refl; malformed = rw (same, t) h.malformed }))
      (λ (z : 0 < length cs). rw (append_none cs es (omega arith)) h)
      (eq-or-lt_of_le (let z : 0 ≤ length cs = omega arith in z))
  still None (Some w) h x f f' g m =
      let full = f' refl in let was = frontier_open a k (length cs) in let t = all→ _ x in let lo = leb-true w.malformed (a.end - a.start) t.1.1.1.0 in
      ⊎_elim
      (λ (z : 0 ≡ length cs).
      let y : (length cs - 1) * k ≡ 0 = ap (λ (i : ℕ). i * k) (let y : length cs - 1 ≡ 0 = omega arith in y) ∙ zero-mul k in
      let b : boundaries a k ≤ 0 =
      ⊎_elim (λ (v : 0 ≡ boundaries a k). omega arith) (λ (v : 0 < boundaries a k). let o = in_boundary a k 0 pos v in omega (arith, zero-mul k))
      (eq-or-lt_of_le (let v : 0 ≤ boundaries a k = omega arith in v)) in
      let c : ds ≡ cs = nil_of ds (omega arith) ∙ sym (nil_of cs (sym z)) in
      let n : length ms ≡ min (last_checkpoint cs).malformed max_malformed = malformed_length _ _ _ _ h.malformed in
      let o = first_count k cs h.checkpoints (omega arith) in
      let v : w.malformed ≡ 0 = omega arith in
      rw (append_none cs (drop (length cs - first) ds) (omega (arith, length-drop (length cs - first) ds)))
      (record {
        checkpoints = h.checkpoints;
        ending = rw c at x;
        malformed = rw v (malformed_none a a.end ms (omega (arith, min-le_left (last_checkpoint cs).malformed max_malformed)));
      }))
      (λ (z : 0 < length cs). let v = in_boundary a k (length cs - 1) pos (omega arith) in let y : ⊥ = omega arith in absurd y)
      (eq-or-lt_of_le (let z : 0 ≤ length cs = omega arith in z))

-- a complete list has all checkpoints
pub joined_full : (n m first b : ℕ) (e e' : Option EndState) → first ≤ n → n ≤ b → first + m ≤ b → (is_some e ≡ true → n ≡ b) → (is_some e' ≡ true → first + m ≡ b) → is_some (or_else e' e) ≡ true
    → n + (m - (n - first)) ≡ b
unfolding or_else is_some
joined_full n m first b e None l w w' f f' x = let y = f x in omega arith
joined_full n m first b e (Some v) l w w' f f' x = let y = f' refl in omega arith

module _ (x : Scan) (r : Recorder) (ok : ScanIs x) (ok' : RecorderIs r) (ea : r.area ≡ x.area) (ei : r.interval ≡ x.interval) (pos : 1 ≤ x.interval)
    (joins : r.first ≤ count x) (same : agree same_end x.ending (end_of r.mode) ≡ true) where
  joined_ok : moves x r ≡ false → ScanIs (joined x r x.malformed)
  joined_ok m =
      let s = ok.stretch in let es = drop (count x - r.first) r.checkpoints in
      let t : StretchIs x.area x.interval r.budget r.first r.checkpoints r.frames r.parts (end_of r.mode) = rw (ea, ei) at ok' in
      let w = s.within in let w' = t.within in
      let n = length-append x.checkpoints es in let l = length-drop (count x - r.first) r.checkpoints in
      let full : is_some x.ending ≡ true → count x ≡ boundaries x.area x.interval = λ z. let y = s.full z in omega arith in
      let read =
      still x.area x.interval r.first x.checkpoints r.checkpoints x.malformed pos joins (omega arith) w' t.checkpoints x.ending (end_of r.mode)
      (record { checkpoints = s.checkpoints; ending = s.ending; malformed = ok.malformed }) t.ending full t.full same (ltb-false _ _ m) in
      record {
        stretch =
            record {
              within = omega arith;
              full = λ z. let y = joined_full (count x) (length r.checkpoints) r.first _ x.ending (end_of r.mode) joins (omega arith) w' full t.full z in omega arith;
              checkpoints = read.checkpoints;
              held =
                  (index_takes (λ i c. Unit {0}) x.area x.interval x.budget r.budget r.first x.checkpoints r.checkpoints r.frames r.parts
                  (record { frames = x.frames; parts = x.parts }) s.held t.held joins (λ i z. tt) (λ i z. tt)).held;
              ending = read.ending;
            };
        malformed = read.malformed;
      }

-- what is asked of a recorder that is not stopped
pub unstopped : (r : Recorder) (b : Bool) → is_stopped r.mode ≡ false → (is_stopped r.mode || b) ≡ true → b ≡ true
unstopped r b s e = ⊎_elim (λ z. never z s) (λ z. z) (or_cases (is_stopped r.mode) b e)

-- question 12 of a frontier that moves
moved : (x : Index) (r : Recorder) (image : Option ℕ) (ms : List ℕ) → question12 x r image ms ≡ true → moves x.scan r ≡ true → question4 (absorbed_index x r image ms) ≡ true
unfolding question12
moved x r image ms e t = (all→ _ (implied (moves x.scan r) _ e t)).1.1.1.0

-- questions 1, 2 and 4 of both were asked
pub absorb_asked : (l : Lengths) (x : Index) (m : Lengths) (r : Recorder) (image : Option ℕ) (ms : List ℕ) → absorb_number l x m r image ms ≡ 0 → SoundIndex x × Sound r
absorb_asked l x m r image ms e =
    let q = asked _ refl e in
    let one = q.0 in let two = q.1.0 in let four = q.1.1.1.0 in (
      (and_left (question1 x) (recorder_question1 r) one, and_left (question2 x) (recorder_question2 r) two, and_left (question4 x) (recorder_question4 r) four),
      (and_right (question1 x) (recorder_question1 r) one, and_right (question2 x) (recorder_question2 r) two, and_right (question4 x) (recorder_question4 r) four),
    )

-- closure of question 4 under absorbing
pub absorbed_ok : (l : Lengths) (x : Index) (m : Lengths) (r : Recorder) (image : Option ℕ) (ms : List ℕ) → absorb_number l x m r image ms ≡ 0 → is_stopped r.mode ≡ false
    → question4 (absorbed_index x r image ms) ≡ true
unfolding question2 question4 question9 question10 question11 question12
absorbed_ok l x m r image ms e s =
    let q = asked _ refl e in
    let a = absorb_asked l x m r image ms e in let own = all→ _ a.0.2 in
    let nine = all→ _ (unstopped r (question9 x r) s q.1.1.1.1.1.0) in
    let ten = all→ _ (unstopped r (question10 x r) s q.1.1.1.1.1.1.0) in
    let eleven = all→ _ (unstopped r (question11 x r) s q.1.1.1.1.1.1.1.0) in
    let twelve = unstopped r (question12 x r image ms) s q.1.1.1.1.1.1.1.1.0 in
    let k = interval_pos x.scan.interval x.scan.budget a.0.1 in
    let y = scan→ x.scan own.0 in let z = recorder→ r a.1.2 in
    test (moves x.scan r) (λ t. moved x r image ms twelve t)
    (λ t.
    let ok = joined_ok x.scan r y z (sym (same_area_eq _ _ nine.0)) (sym (eqb-true _ _ nine.1.0)) k (leb-true _ _ ten.1.0) eleven.1.0 t in
    →all _ (
      choose (λ w. scan_ok (joined x.scan r w) ≡ true) (moves x.scan r) (take max_malformed (below (frontier (joined x.scan r [])) ms)) x.scan.malformed (λ w. never w t)
          (λ w. →scan (joined x.scan r x.scan.malformed) ok),
      (own.1.0, tt),
    ))
