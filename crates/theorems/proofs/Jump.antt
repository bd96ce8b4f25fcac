-- No accepted merge moves a jump's start backwards. Assumes nothing.
use Rattle.std.specs.Prelude.{Option, None, Some}
use mathlib.Core.Path.{◌≡◌, refl, ap, subst, ◌∙◌}
use mathlib.Core.Bool.{true, false, not, ◌||◌}
use mathlib.Core.Logic.{⊎_elim}
use mathlib.Core.List.{List, ◌++◌}
use Prim.Native.Nat.{ℕ, zero, suc, ◌<◌, ◌≤◌}
use native.Mathlib.Nat.{eq-or-lt_of_le}
use native.Mathlib.Omega.{arith}
use lib.Dec.{leb, ltb}
use lib.ListN.{length, take, drop}
use lib.Seq.{get_or-take}
use borrow.Author.Tests.{leb-true, not-true}
use Rattle.rules.specs.declared.Area.{Area}
use Rattle.rules.specs.declared.Checkpoint.{Checkpoint}
use Rattle.rules.specs.declared.EndState.{EndState}
use Rattle.rules.specs.declared.Plan.{Plan}
use Rattle.rules.specs.Tests.{is_some}
use Rattle.rules.specs.Values.{Scan, Index, Lengths, no_checkpoint, checkpoint_at, lsn_of, boundaries, complete, count}
use Rattle.rules.specs.Questions.{area_ok, question1, question2}
use Rattle.rules.specs.Merge.{question43, further, taken_scan, merged_scan, merged, merge_number, merge}
use Rattle.rules.specs.Plan.{last_not_above, plan_from, plan_or, planned, start_of, jump}
use Rattle.theorems.specs.Jump.{JumpNotBack}
use Rattle.rules.proofs.Tests.{test, never, all→, and_left, accepted→}
use Rattle.laws.proofs.hint_lists.Calls.{Taken, taken}
use Rattle.laws.proofs.scans.Record.{interval_pos}
use Rattle.laws.proofs.scans.Scans.{ScanIs, scan_of, scan→, in_boundary}
use Rattle.laws.proofs.scans.Merge.{appended, further_count, further_prefix}
use Rattle.theorems.proofs.ScanLaws.{counts}

-- two lists that a merge accepts, as far as the scans go
pub record Joinable (own other : Scan) : Type 0 where
  pub ok : ScanIs own
  pub ok' : ScanIs other
  pub area : own.area ≡ other.area
  pub interval : own.interval ≡ other.interval
  pub longer : further own other ≡ true → count own ≤ count other
  pub prefix : further own other ≡ true → own.checkpoints ≡ take (count own) other.checkpoints

-- ---- where the last checkpoint not above t lies
module _ (a : Area) (k t : ℕ) where
  abbrev pub place : Option ℕ → ℕ
  place None = a.start
  place (Some j) = lsn_of a k j

  last_most : (cs : List Checkpoint) (n : ℕ) → place (last_not_above t cs n) ≤ lsn_of a k n
  unfolding last_not_above
  last_most cs zero = omega arith
  last_most cs (suc n) = let h = last_most cs n in test (leb (checkpoint_at cs n).threshold t)
      (λ e. rw e (omega arith)) (λ e. rw e (omega arith))

  pub last_grows : (cs : List Checkpoint) (n m : ℕ) → n ≤ m → place (last_not_above t cs n) ≤ place (last_not_above t cs m)
  unfolding last_not_above
  last_grows cs n zero l = let e : n ≡ 0 = omega arith in rw e (omega arith)
  last_grows cs n (suc m) l =
      ⊎_elim (λ (e : n ≡ suc m). rw e (omega arith))
      (λ (e : n < suc m). let h = last_grows cs n m (omega arith) in let g = last_most cs m in
      test (leb (checkpoint_at cs m).threshold t) (λ e. rw e (omega arith)) (λ e. rw e h)) (eq-or-lt_of_le l)

  pub last_inside : (cs : List Checkpoint) (n : ℕ) → 1 ≤ k → a.start ≤ a.end → n ≤ boundaries a k
      → place (last_not_above t cs n) ≤ a.end
  unfolding last_not_above
  last_inside cs zero hk ha l = ha
  last_inside cs (suc n) hk ha l =
      test (leb (checkpoint_at cs n).threshold t)
      (λ e. rw e (let h = in_boundary a k n hk (omega arith) in omega arith))
      (λ e. rw e (last_inside cs n hk ha (omega arith)))

-- it is decided by the checkpoints before n
pub last_same : (t : ℕ) (cs ds : List Checkpoint) (n : ℕ) → ((i : ℕ) → i < n → checkpoint_at cs i ≡ checkpoint_at ds i)
    → last_not_above t cs n ≡ last_not_above t ds n
unfolding last_not_above
last_same t cs ds zero h = refl
last_same t cs ds (suc n) h = rw (h n (omega arith), last_same t cs ds n (λ i l. h i (omega arith)))

-- ---- the plan starts there, or at the end
pub plan_at : (x : Scan) (o : Option ℕ) → start_of x.area (plan_from x o) ≡ place x.area x.interval 0 o
unfolding plan_from start_of
plan_at x None = refl
plan_at x (Some j) = refl

plan_least : (a : Area) (t n : ℕ) (e : Option EndState) (q : Plan) → n ≤ start_of a q → n ≤ a.end
    → n ≤ start_of a (plan_or t e q)
unfolding plan_or start_of
plan_least a t n None q h s = h
plan_least a t n (Some e) q h s = test (leb e.threshold t) (λ w. rw w s) (λ w. rw w h)

none_of : {A : Type 0} (o : Option A) → is_some o ≡ false → o ≡ None
unfolding is_some
none_of None e = refl
none_of (Some x) e = never {b = true} refl e

incomplete : (own other : Scan) → further own other ≡ true → own.ending ≡ None
unfolding further
incomplete own other f = none_of own.ending (not-true (complete own)
    (and_left (not (complete own)) (complete other || ltb (count own) (count other)) f))

jump_scan : (own other : Scan) (t : ℕ) → Joinable own other → 1 ≤ own.interval → own.area.start ≤ own.area.end
    → jump own t ≤ jump (merged_scan own other) t
unfolding merged_scan planned
jump_scan own other t j hk ha =
    test (further own other)
    (λ f.
    let a = own.area in let k = own.interval in let n = count own in let c = counts own j.ok in
    let d = j.longer f in
    let same : last_not_above t own.checkpoints n ≡ last_not_above t other.checkpoints n =
    last_same t own.checkpoints other.checkpoints n
    (λ i l. ap (λ (cs : List Checkpoint). checkpoint_at cs i) (j.prefix f)
    ∙ get_or-take n other.checkpoints i no_checkpoint l) in
    let mine : plan_or t own.ending (plan_from own (last_not_above t own.checkpoints n))
    ≡ plan_from own (last_not_above t own.checkpoints n) =
    unfold plan_or in ap (λ (e : Option EndState). plan_or t e (plan_from own (last_not_above t own.checkpoints n)))
    (incomplete own other f) in
    let at_own = plan_at own (last_not_above t own.checkpoints n) in
    let cs = own.checkpoints ++ drop n other.checkpoints in
    let e : cs ≡ other.checkpoints = appended own.checkpoints other.checkpoints (j.prefix f) in
    rw f
    (rw (mine, at_own, same)
    (plan_least a t _ other.ending _
    (rw (plan_at (taken_scan own other) (last_not_above t cs (length cs)), e)
    (last_grows a k t other.checkpoints n (count other) d))
    (last_inside a k t other.checkpoints n hk ha c.within))))
    (λ f. rw f (omega arith))

-- ---- an accepted merge
pub joinable : (l m : Lengths) (own other : Index) → Taken l own m other → Joinable own.scan other.scan
unfolding question43
joinable l m own other c =
    let x = scan→ own.scan (scan_of own c.four) in let y = scan→ other.scan (scan_of other c.four') in
    record {
      ok = x;
      ok' = y;
      area = c.area;
      interval = c.interval;
      longer = further_count own.scan other.scan x y c.area c.interval;
      prefix = further_prefix own.scan other.scan x y c.area c.interval (all→ _ c.agreed).0;
    }

pub jump_not_back : JumpNotBack
unfolding merge merged question1 question2 area_ok
jump_not_back l m own other y t e =
    let r = accepted→ (merge_number l own m other) (merged own other) y e in let c = taken l m own other r.0 in
    subst (λ (z : Index). jump own.scan t ≤ jump z.scan t) r.1
    (jump_scan own.scan other.scan t (joinable l m own other c) (interval_pos _ _ c.two)
    (leb-true _ _ (all→ _ c.one).1.0))
