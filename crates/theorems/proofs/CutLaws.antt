-- Lists cut from one reading: merging and loading leave such lists, and their level says what they have read. Assumes nothing.
use Rattle.std.specs.Prelude.{None, Some}
use mathlib.Core.Path.{◌≡◌, refl, sym, ap, ◌∙◌, subst}
use mathlib.Core.Bool.{Bool, true, false}
use mathlib.Core.Logic.{⊎_elim, ◌⊎◌}
use mathlib.Core.List.{List}
use Prim.Native.Nat.{ℕ, ◌+◌, ◌≤◌}
use native.Mathlib.Omega.{arith}
use lib.ListN.{take}
use borrow.Author.Tests.{eq-eqb}
use Rattle.rules.specs.declared.Checkpoint.{Checkpoint}
use Rattle.rules.specs.Tests.{is_some, agree, agrees}
use Rattle.rules.specs.Values.{Scan, Index, Lengths, max_malformed, boundaries, complete, count, frontier_of, frontier, same_checkpoint, same_end}
use Rattle.rules.specs.Questions.{question1, question3}
use Rattle.rules.specs.Record.{below}
use Rattle.rules.specs.Merge.{question41, question42, question43, further, taken_scan, merged_scan, merged, merge_number}
use Rattle.rules.specs.Load.{limited}
use Rattle.rules.specs.Run.{Reading, checkpoints_of, end_state_of, Cut}
use Rattle.laws.proofs.scans.Scans.{ScanIs, scan_of, scan→}
use Rattle.laws.proofs.scans.Merge.{appended, further_prefix}
use Rattle.laws.proofs.scans.Theorems.{merge_bytes, limit_bytes}
use Rattle.rules.proofs.Tests.{never, choose, both, →all, agrees_take, agree_none, asks}
use Rattle.rules.proofs.Same.{same_checkpoint_self, same_end_self, same_area_self}
pub use Rattle.drawer.proofs.Passing.{merged_one, merged_two, merged_three, merged_four, merged_fits, limited_two, limited_three, limited_four, limited_fits}
use Rattle.theorems.proofs.ScanLaws.{Counts, counts, one, level}

-- ---- what a scan of the reading R has read
pub record Read (R : Reading) (x : Scan) : Type 0 where
  pub area : x.area ≡ R.area
  pub interval : x.interval ≡ R.interval
  pub checkpoints : x.checkpoints ≡ take (count x) (checkpoints_of R)
  pub ending : (x.ending ≡ None) ⊎ ((x.ending ≡ Some (end_state_of R)) × (count x ≡ boundaries R.area R.interval))
  pub malformed : x.malformed ≡ take max_malformed (below (frontier x) R.malformed)

levels : (b n m : ℕ) (w v : Bool) → n ≤ b → (w ≡ true → n ≡ b) → m ≤ b → (v ≡ true → m ≡ b) → n + one w ≡ m + one v
    → (n ≡ m) × (w ≡ v)
levels b n m true true l f k g e = (omega arith, refl)
levels b n m true false l f k g e = let x = f refl in let z : ⊥ = omega arith in absurd z
levels b n m false true l f k g e = let x = g refl in let z : ⊥ = omega arith in absurd z
levels b n m false false l f k g e = (omega arith, refl)

same_ending : (R : Reading) (t u : Scan) → Read R t → Read R u → complete t ≡ complete u → t.ending ≡ u.ending
unfolding is_some
same_ending R t u r s e =
    ⊎_elim (λ x. ⊎_elim (λ y. x ∙ sym y) (λ y. never (e ∙ ap is_some y.0) (ap is_some x)) s.ending)
    (λ x. ⊎_elim (λ y. never (ap is_some x.0) (e ∙ ap is_some y)) (λ y. x.0 ∙ sym y.0) s.ending) r.ending

-- the level says it all
pub same_level : (R : Reading) (t u : Scan) → Counts t → Counts u → Read R t → Read R u → level t ≡ level u
    → (t.checkpoints ≡ u.checkpoints) × (t.ending ≡ u.ending) × (t.malformed ≡ u.malformed)
unfolding level
same_level R t u ok ok' r s e =
    let ea : t.area ≡ u.area = r.area ∙ sym s.area in let ei : t.interval ≡ u.interval = r.interval
    ∙ sym s.interval in
    let b : boundaries t.area t.interval ≡ boundaries u.area u.interval = rw (ea, ei) in
    let c = levels (boundaries t.area t.interval) (count t) (count u) (complete t) (complete u) ok.within
    ok.full
    (let x = ok'.within in omega arith) (λ v. ok'.full v ∙ sym b) e in
    let ee = same_ending R t u r s c.1 in
    let fr : frontier t ≡ frontier u = λ i. frontier_of (ea i) (ei i) (c.0 i) (ee i) in (
      r.checkpoints ∙ ap (λ (n : ℕ). take n (checkpoints_of R)) c.0 ∙ sym s.checkpoints,
      ee,
      r.malformed ∙ ap (λ (n : ℕ). take max_malformed (below n R.malformed)) fr ∙ sym s.malformed,
    )

-- ---- merging two scans of one reading
module _ (R : Reading) (own other : Scan) (r : Read R own) (s : Read R other) where
  pub same_area : own.area ≡ other.area
  same_area = r.area ∙ sym s.area

  pub same_interval : own.interval ≡ other.interval
  same_interval = r.interval ∙ sym s.interval

  merged_read : (further own other ≡ true → own.checkpoints ≡ take (count own) other.checkpoints)
      → Read R (merged_scan own other)
  unfolding merged_scan
  merged_read prefix =
      choose (Read R) (further own other) (taken_scan own other) own
      (λ f.
      rw (appended own.checkpoints other.checkpoints (prefix f))
      (record {
        area = r.area;
        interval = r.interval;
        checkpoints = s.checkpoints;
        ending = s.ending;
        malformed =
            s.malformed
            ∙ ap (λ (n : ℕ). take max_malformed (below n R.malformed))
            (λ i. frontier_of (sym same_area i) (sym same_interval i) (count other) other.ending);
      }))
      (λ f. r)

-- ---- lists cut from the reading
module _ (R : Reading) where
  pub cut_scan : (x : Index) → Cut R x → ScanIs x.scan
  cut_scan x c = scan→ x.scan (scan_of x c.four)

  pub cut_counts : (x : Index) → Cut R x → Counts x.scan
  cut_counts x c = counts x.scan (cut_scan x c)

  pub cut_read : (x : Index) → Cut R x → Read R x.scan
  cut_read x c = record {
    area = c.area;
    interval = c.interval;
    checkpoints = c.checkpoints;
    ending = c.ending;
    malformed = c.malformed;
  }

  -- two lists of one reading pass 41 and 43
  ends_agree : (x y : Index) → Cut R x → Cut R y → agree same_end x.scan.ending y.scan.ending ≡ true
  unfolding agree
  ends_agree x y c d =
      ⊎_elim (λ e. rw e refl)
      (λ e. ⊎_elim (λ f. rw f (agree_none same_end x.scan.ending))
      (λ f. rw (e.0, f.0) (same_end_self (end_state_of R))) d.ending) c.ending

  checkpoints_agree : (x y : Index) → Cut R x → Cut R y
      → agrees same_checkpoint x.scan.checkpoints y.scan.checkpoints ≡ true
  checkpoints_agree x y c d =
      subst (λ (z : List Checkpoint). agrees same_checkpoint z y.scan.checkpoints ≡ true) (sym c.checkpoints)
      (subst (λ (z : List Checkpoint). agrees same_checkpoint (take (count x.scan) (checkpoints_of R)) z ≡ true)
      (sym d.checkpoints)
      (agrees_take same_checkpoint same_checkpoint_self (count x.scan) (count y.scan) (checkpoints_of R)))

  cut_41 : (x y : Index) → Cut R x → Cut R y → question41 x y ≡ true
  unfolding question41
  cut_41 x y c d =
      let a : x.scan.area ≡ y.scan.area = c.area ∙ sym d.area in
      →all _ (rw a (same_area_self y.scan.area), (eq-eqb _ _ (c.interval ∙ sym d.interval), tt))

  cut_43 : (x y : Index) → Cut R x → Cut R y → question43 x y ≡ true
  unfolding question43
  cut_43 x y c d = →all _ (checkpoints_agree x y c d, (ends_agree x y c d, tt))

  cut_merged_read : (own other : Index) → Cut R own → Cut R other → Read R (merged_scan own.scan other.scan)
  cut_merged_read own other c d =
      let x = cut_read own c in let y = cut_read other d in
      merged_read R own.scan other.scan x y
      (further_prefix own.scan other.scan (cut_scan own c) (cut_scan other d) (x.area ∙ sym y.area)
      (x.interval ∙ sym y.interval) (checkpoints_agree own other c d))

  pub cut_merged : (own other : Index) → Cut R own → Cut R other → Cut R (merged own other)
  cut_merged own other c d =
      let r = cut_merged_read own other c d in let q = cut_41 own other c d in let q' = cut_43 own other c d in
      record {
        one = merged_one own other c.one;
        two = merged_two own other c.two;
        four = merged_four own other c.four d.four q q';
        fits = merged_fits own other c.fits d.fits;
        area = unfold merged in r.area;
        interval = unfold merged in r.interval;
        checkpoints = unfold merged in r.checkpoints;
        ending = unfold merged in r.ending;
        malformed = unfold merged in r.malformed;
        parts = unfold merged in merge_bytes (λ n c. c ≡ R.part n) own other (scan_of own c.four)
            (scan_of other d.four) q q' c.parts d.parts;
      }

  pub cut_limited : (limit : ℕ) (x : Index) → Cut R x → Cut R (limited limit x)
  cut_limited limit x c =
      record {
        one = unfold limited in unfold question1 in c.one;
        two = limited_two limit x c.two;
        four = limited_four limit x c.four;
        fits = limited_fits limit x c.fits;
        area = unfold limited in c.area;
        interval = unfold limited in c.interval;
        checkpoints = unfold limited in c.checkpoints;
        ending = unfold limited in c.ending;
        malformed = unfold limited in c.malformed;
        parts = unfold limited in limit_bytes (λ n c. c ≡ R.part n) limit x.scan (scan_of x c.four) c.parts;
      }

  -- they are refused by 3 or 42 only
  pub not_refused : (l m : Lengths) (own other : Index) → Cut R own → Cut R other → question3 l own ≡ true
      → question3 m other ≡ true → question42 own other ≡ true
      → merge_number l own m other ≡ 0
  unfolding merge_number
  not_refused l m own other c d t t' i =
      asks _ (
        both c.one d.one,
        (
          both c.two d.two,
          (both t t', (both c.four d.four, (cut_41 own other c d, (i, (cut_43 own other c d, tt))))),
        ),
      )
