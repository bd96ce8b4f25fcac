-- What shuts out programs that do nothing useful: the statements of specs/Useful.antt, but for RefusesNothing. Assumes nothing.
use Rattle.std.specs.Prelude.{Option, None, Some}
use mathlib.Core.Path.{◌≡◌, refl, sym, ap, ap₂, subst, ◌∙◌}
use mathlib.Core.Bool.{Bool, true, false}
use mathlib.Core.Logic.{◌≢◌, ⊎_elim}
use mathlib.Core.List.{List, [], ◌∷◌, ◌++◌}
use Prim.Native.Nat.{ℕ, zero, suc, ◌+◌, ◌-◌, ◌<◌, ◌≤◌}
use native.Mathlib.Nat.{eq-or-lt_of_le, zero-add}
use native.Mathlib.Omega.{arith}
use lib.Dec.{eqb, leb, ltb}
use lib.ListN.{length, get_or, take, drop, length-append, length-drop}
use borrow.Author.Tests.{eqb-true, eq-eqb, leb-true, leb-false, le-leb, lt-ltb, ltb-true}
use Rattle.rules.specs.declared.Checkpoint.{Checkpoint}
use Rattle.rules.specs.declared.EndState.{EndState}
use Rattle.rules.specs.declared.Held.{Held}
use Rattle.rules.specs.declared.HeldPart.{HeldPart}
use Rattle.rules.specs.declared.Hint.{Hint}
use Rattle.rules.specs.declared.Fingerprint.{Fingerprint}
use Rattle.rules.specs.declared.Fingerprint.TheVariants.{Unknown, Checked}
use Rattle.rules.specs.declared.Fingerprint.TheVariants as fingerprint
use Rattle.rules.specs.declared.Plan.{Plan}
use Rattle.rules.specs.declared.Plan.TheVariants.{End}
use Rattle.rules.specs.Tests.{is_some, or_else, ask, first_no, Accepted}
use Rattle.rules.specs.Values.{Frame, Scan, Index, Recorder, Lengths, max_malformed, no_hint, no_held, checkpoint_at, boundaries, frontier, count, complete, stated, is_checked}
use Rattle.rules.specs.Questions.{four}
use Rattle.rules.specs.Record.{question9, question10, below, joined, taken_malformed, absorbed_index, is_stopped, absorb_number, absorb}
use Rattle.rules.specs.Hints.{near, largest_of, hint_place, hinted_at, hint}
use Rattle.rules.specs.Merge.{further, merged_stored, merged_scan, held_from, merged_fingerprint, merged, merge_number, merge}
use Rattle.rules.specs.File.{saved, save}
use Rattle.rules.specs.Load.{limited}
use Rattle.rules.specs.Plan.{last_not_above, assembly_of, plan_from, plan_or, planned, plan}
use Rattle.rules.proofs.Tests.{choose, test, never, all→, or_right, asked, accepted→}
use Rattle.rules.proofs.Same.{same_area_eq}
use Rattle.laws.proofs.scans.Parts.{HeldIs}
use Rattle.laws.proofs.scans.Scans.{ScanIs, scan_of, scan→, recorder→}
use Rattle.laws.proofs.scans.Merge.{appended}
use Rattle.laws.proofs.scans.Absorb.{absorb_asked, unstopped}
use Rattle.laws.proofs.hint_lists.Calls.{taken}
use Rattle.laws.proofs.hint_lists.Closure.{unmarked_stated, merged_stated}
use Rattle.laws.proofs.Limit.{limited_load}
use Rattle.laws.proofs.Length.{saved_length_is}
use Rattle.theorems.specs.Terms.{stored_in}
use Rattle.theorems.specs.PartRule.{Admits}
use Rattle.theorems.specs.Useful.{LoadKeeps, MergeOf, MergedOf, MergeTakes, AbsorbOf, AbsorbTakes, SaveTells, Looked, PlanLooks, HintLooks}
use Rattle.theorems.proofs.Accepts.{refuses_nothing}
use Rattle.theorems.proofs.ScanLaws.{counts}
use Rattle.theorems.proofs.CutLaws.{limited_three}
use Rattle.theorems.proofs.PartRule.{admits}
use Rattle.theorems.proofs.Jump.{Joinable, joinable}
use Rattle.theorems.proofs.Closure.{number_by}

-- ---- load
pub load_keeps : LoadKeeps
load_keeps l x v z limit = (
  limited limit x,
  limited_load l limit x (record { one = v.one; two = v.two; four = v.four; sizes = z })
      (limited_three limit x l v.three),
  unfold limited in
      record {
        read = record { checkpoints = refl; ending = refl; malformed = refl };
        area = refl;
        interval = refl;
        budget = refl;
        parts = record { frames = refl; parts = refl };
        spacing = refl;
        most = refl;
        hints = refl;
        confirmed = refl;
        fingerprint = unmarked_stated x.fingerprint;
      },
)

-- ---- save
pub save_tells : SaveTells
unfolding save
save_tells l x out b e = let t = saved_length_is x in (ap length (sym (accepted→ _ (saved x) b e).1) ∙ sym t.0, t.1)

-- ---- merge
module _ (own other : Scan) (j : Joinable own other) where
  abbrev taken_from : further own other ≡ true → own.checkpoints ++ drop (count own) other.checkpoints
      ≡ other.checkpoints
  taken_from f = appended own.checkpoints other.checkpoints (j.prefix f)

  longer_further : count own < count other → further own other ≡ true
  unfolding further
  longer_further w =
      let b = ap₂ boundaries j.area j.interval in
      test (complete own) (λ h. let n = (counts own j.ok).full h in let i = (counts other j.ok').within
      in let z : ⊥ = omega arith in absurd z)
      (λ h. rw h (or_right (complete other) (lt-ltb (count own) (count other) w)))

  complete_further : complete own ≡ false → complete other ≡ true → further own other ≡ true
  unfolding further
  complete_further h w = rw (h, w) refl

  -- the further list's parts come to the own ones
  merge_admits : further own other ≡ true → Admits own.budget other.frames (count own) other.parts
      (stored_in own) (merged_stored own other)
  merge_admits f =
      let theirs : HeldIs own.area own.interval other.budget 0 other.checkpoints other.frames
      other.parts = rw (j.area, j.interval) j.ok'.stretch.held in
      rw (zero-add (count own)) at
      (admits own.area own.interval own.budget other.budget 0 0 own.checkpoints other.checkpoints
      other.frames other.parts (stored_in own) j.ok.stretch.held theirs (omega arith))

  merge_of : MergeOf own other (merged_scan own other)
  unfolding merged_scan
  merge_of =
      record {
        longer = λ w. let f = longer_further w in rw f (taken_from f);
        complete = λ w. test (further own other) (λ f. rw f w)
            (λ f. test (complete own) (λ h. rw f h) (λ h. never (complete_further h w) f));
        taken = λ f. rw f (record { checkpoints = taken_from f; ending = refl; malformed = refl }, refl);
        parts = λ f. rw f (merge_admits f);
        same = λ f. rw f refl;
      }

-- the mark is the own one's
mark_stays : (f g : Fingerprint) → is_checked (merged_fingerprint f g) ≡ is_checked f
unfolding merged_fingerprint held_from stated is_checked
mark_stays Unknown Unknown = refl
mark_stays Unknown (fingerprint.Held v) = refl
mark_stays Unknown (Checked v) = refl
mark_stays (fingerprint.Held v) g = refl
mark_stays (Checked v) g = refl

pub merge_takes : MergeTakes
unfolding merge merged
merge_takes l m own other y e =
    let t = accepted→ (merge_number l own m other) (merged own other) y e in
    subst (λ (z : Index). MergedOf own other z) t.1
    (record {
      scan = merge_of own.scan other.scan (joinable l m own other (taken l m own other t.0));
      image = refl;
      fingerprint = merged_stated own.fingerprint other.fingerprint;
      checked = mark_stays own.fingerprint other.fingerprint;
      hints = refl;
      confirmed = refl;
    })

-- ---- plan
module _ (t : ℕ) (cs : List Checkpoint) where
  abbrev Above : ℕ → ℕ → Type 0
  Above i n = (k : ℕ) → i ≤ k → k < n → t < (checkpoint_at cs k).threshold

  -- one more that is above
  above_more : (i n : ℕ) → leb (checkpoint_at cs n).threshold t ≡ false → Above i n → Above i (suc n)
  above_more i n h f k a b =
      ⊎_elim (λ (q : k ≡ n). rw q (leb-false (checkpoint_at cs n).threshold t h)) (λ (q : k < n). f k a q)
      (eq-or-lt_of_le (let l : k ≤ n = omega arith in l))

  none_above : (n : ℕ) → last_not_above t cs n ≡ None → Above 0 n
  unfolding last_not_above
  none_above zero e = λ k a b. let z : ⊥ = omega arith in absurd z
  none_above (suc n) e =
      test (leb (checkpoint_at cs n).threshold t)
      (λ h. let q : Some n ≡ None = rw h at e in let z : ◌≡◌ {A = ℕ} 0 1 = cc in let f : ⊥ = omega arith in absurd f)
      (λ h. above_more 0 n h (none_above n (rw h at e)))

  record Found (n j : ℕ) : Type 0 where
    inside : j < n
    not_above : (checkpoint_at cs j).threshold ≤ t
    last : Above (j + 1) n

  last_found : (n j : ℕ) → last_not_above t cs n ≡ Some j → Found n j
  unfolding last_not_above
  last_found zero j e = let z : ◌≡◌ {A = ℕ} 0 1 = cc in let f : ⊥ = omega arith in absurd f
  last_found (suc n) j e =
      test (leb (checkpoint_at cs n).threshold t)
      (λ h. let q : Some n ≡ Some j = rw h at e in let i : n ≡ j = cc in
      subst (λ (m : ℕ). Found (suc n) m) i
      (record {
        inside = omega arith;
        not_above = leb-true (checkpoint_at cs n).threshold t h;
        last = λ k a b. let z : ⊥ = omega arith in absurd z;
      }))
      (λ h.
      let r = last_found n j (rw h at e) in
      record { inside = omega (arith, r.inside); not_above = r.not_above; last = above_more (j + 1) n h r.last })

stored_not : (p : HeldPart) → Some p ≢ None
stored_not p e = let z : ◌≡◌ {A = ℕ} 0 1 = cc in omega arith

-- a part that is held is answered
part_there : (fs : List Frame) (ps : List Held) (j i : ℕ) → i < length ps → (get_or ps i no_held).at ≡ j
    → assembly_of fs ps j ≢ None
unfolding assembly_of
part_there fs [] j i l e q = let z : ⊥ = omega arith in absurd z
part_there fs (p ∷ ps) j zero l e q = stored_not _ (rw (eq-eqb p.at j e) at q)
part_there fs (p ∷ ps) j (suc i) l e q =
    test (eqb p.at j) (λ h. stored_not _ (rw h at q)) (λ h. part_there fs ps j i (omega arith) e (rw h at q))

module _ (t : ℕ) (x : Scan) where
  -- without the end state
  looked_from : (o : Option ℕ) → last_not_above t x.checkpoints (length x.checkpoints) ≡ o
      → Looked x t (plan_from x o)
  unfolding plan_from Looked
  looked_from None e = none_above t x.checkpoints (length x.checkpoints) e
  looked_from (Some j) e =
      let f = last_found t x.checkpoints (length x.checkpoints) j e in
      record {
        inside = f.inside;
        lsn = refl;
        checkpoint = refl;
        not_above = f.not_above;
        last = f.last;
        held = λ i l q. part_there x.frames x.parts j i l q;
      }

  looked_or : (e : Option EndState) → x.ending ≡ e → (p : Plan) → Looked x t p → Looked x t (plan_or t e p)
  unfolding plan_or Looked
  looked_or None q p h = h
  looked_or (Some s) q p h = choose (Looked x t) (leb s.threshold t) (End s) p
      (λ b. (q, leb-true s.threshold t b)) (λ b. h)

pub plan_looks : PlanLooks
unfolding plan planned plan_or
plan_looks =
    record {
      answers = λ l x t p e.
          subst (Looked x.scan t) (accepted→ (first_no (four l x [])) (planned x.scan t) p e).1
          (looked_or t x.scan x.scan.ending refl _
          (looked_from t x.scan (last_not_above t x.scan.checkpoints (length x.scan.checkpoints)) refl));
      ends = λ l x t e v q h. refuses_nothing.plans l x t v
          ∙ ap (λ (p : Plan). Accepted p) (rw (q, le-leb e.threshold t h) refl);
    }

-- ---- hint
pub largest_found : (p : ℕ → Bool) (hs : List Hint) (n i : ℕ) → i < n → p i ≡ true → is_some (largest_of p hs n) ≡ true
unfolding largest_of is_some
largest_found p hs zero i l e = let z : ⊥ = omega arith in absurd z
largest_found p hs (suc n) i l e =
    test (p n) (λ w. rw w refl)
    (λ w. rw w (⊎_elim (λ (q : i ≡ n). never (ap p (sym q) ∙ e) w) (λ (q : i < n). largest_found p hs n i q e)
    (eq-or-lt_of_le (let h : i ≤ n = omega arith in h))))

either_found : {A : Type 0} (a b : Option A) → is_some b ≡ true → is_some (or_else a b) ≡ true
unfolding or_else is_some
either_found None b e = e
either_found (Some a) b e = refl

hinted_none : (x : Index) (end playtime : ℕ) (o : Option ℕ)
    → hinted_at x.scan.area x.hinting.hints end playtime o ≡ None → is_some o ≡ false
unfolding hinted_at is_some
hinted_none x end playtime None e = refl
hinted_none x end playtime (Some i) e = let z : ◌≡◌ {A = ℕ} 0 1 = cc in let f : ⊥ = omega arith in absurd f

pub hint_looks : HintLooks
unfolding hint hint_place
hint_looks l x first end playtime i e w =
    let hs = x.hinting.hints in let cs = x.hinting.confirmed in let ch = is_checked x.fingerprint in
    let n = hinted_none x end playtime (hint_place ch hs cs first)
    (accepted→ (first_no (four l x (ask (leb first end) 16 ∷ []))) _ None e).1 in
    test (near first (get_or hs i no_hint))
    (λ f. never (either_found _ (largest_of (λ i. near first (get_or hs i no_hint)) hs (length hs))
    (largest_found (λ i. near first (get_or hs i no_hint)) hs (length hs) i w f)) n)
    (λ f. f)

-- ---- absorb
-- what an accepted absorb of a recorder that is not stopped has passed
record Joins (x : Index) (r : Recorder) : Type 0 where
  own : ScanIs x.scan
  theirs : HeldIs x.scan.area x.scan.interval r.budget r.first r.checkpoints r.frames r.parts
  first : r.first ≤ count x.scan

absorb_joins : (l : Lengths) (x : Index) (m : Lengths) (r : Recorder) (image : Option ℕ) (ms : List ℕ)
    → absorb_number l x m r image ms ≡ 0 → is_stopped r.mode ≡ false → Joins x r
unfolding question9 question10
absorb_joins l x m r image ms e s =
    let q = asked _ refl e in let a = absorb_asked l x m r image ms e in
    let nine = all→ _ (unstopped r (question9 x r) s q.1.1.1.1.1.0) in let ten = all→ _
    (unstopped r (question10 x r) s q.1.1.1.1.1.1.0) in
    let ea : x.scan.area ≡ r.area = same_area_eq _ _ nine.0 in let ei : x.scan.interval
    ≡ r.interval = eqb-true _ _ nine.1.0 in
    record {
      own = scan→ x.scan (scan_of x a.0.2);
      theirs = rw (ea, ei) (recorder→ r a.1.2).held;
      first = leb-true r.first (count x.scan) ten.1.0;
    }

absorb_of : (x : Index) (r : Recorder) (ms : List ℕ) → Joins x r → AbsorbOf x.scan r (joined x.scan r ms)
absorb_of x r ms j =
    let y = x.scan in let i = j.first in
    record {
      checkpoints = refl;
      reaches = omega (
        arith,
        length-append y.checkpoints (drop (count y - r.first) r.checkpoints),
        length-drop (count y - r.first) r.checkpoints,
      );
      ending = refl;
      parts =
          rw (zero-add (count y)) at
          (admits y.area y.interval y.budget r.budget 0 r.first y.checkpoints r.checkpoints
          r.frames r.parts (stored_in y) j.own.stretch.held j.theirs (omega arith));
    }

-- the malformed list of the joined scan
module _ (x : Index) (r : Recorder) (image : Option ℕ) (ms : List ℕ) where
  abbrev after' : Index
  after' = absorbed_index x r image ms

  moved_list : frontier x.scan < frontier after'.scan → after'.scan.malformed
      ≡ take max_malformed (below (frontier after'.scan) ms)
  moved_list h = rw (lt-ltb (frontier x.scan) (frontier (joined x.scan r [])) h)

  held_list : frontier after'.scan ≤ frontier x.scan → after'.scan.malformed ≡ x.scan.malformed
  held_list h =
      test (ltb (frontier x.scan) (frontier (joined x.scan r [])))
      (λ e. let f : ⊥ = omega (arith, ltb-true (frontier x.scan) (frontier (joined x.scan r [])) e, h)
      in absurd f)
      (λ e. rw e refl)

pub absorb_takes : AbsorbTakes
unfolding absorb
absorb_takes l x m r image ms e s =
    let n = absorb_number l x m r image ms in
    let z : n ≡ 0 = sym (number_by l x m r image ms n) ∙ e in
    rw (z, s)
    (record {
      scan = absorb_of x r (taken_malformed x.scan r ms) (absorb_joins l x m r image ms z s);
      malformed = moved_list x r image ms;
      held = held_list x r image ms;
      image = refl;
      hinting = refl;
      fingerprint = refl;
    })
