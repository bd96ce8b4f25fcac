-- A merge and a limit keep the answers to questions 1 to 4, and that numbers fit their types. Assumes nothing.
use mathlib.Core.Path.{◌≡◌}
use mathlib.Core.Bool.{true}
use Prim.Native.Nat.{ℕ, min}
use native.Mathlib.Omega.{arith}
use lib.Dec.{leb}
use borrow.Author.Tests.{leb-true, le-leb}
use Rattle.rules.specs.Values.{Index, Lengths, max32}
use Rattle.rules.specs.Questions.{numbers_ok, scan_room, question1, question2, question3, question4}
use Rattle.rules.specs.Merge.{question41, question43, merged}
use Rattle.rules.specs.Load.{limited}
use Rattle.rules.specs.Sizes.{sized}
use Rattle.rules.proofs.Tests.{all→, →all}
use Rattle.rules.proofs.Same.{same_area_eq}
use Rattle.laws.proofs.hint_lists.Closure as hinting
use Rattle.laws.proofs.hint_lists.Calls.{merged_numbers, holds_of, merged_holds}
use Rattle.laws.proofs.scans.Scans.{scan_of}
use Rattle.laws.proofs.scans.Theorems.{merge_closed, limit_closed}
use Rattle.laws.proofs.scans.Sizes.{merged_sized, limited_sized}

low : (n m limit : ℕ) → leb n m ≡ true → leb (min n limit) m ≡ true
low n m limit e = let w = leb-true n m e in le-leb (min n limit) m (omega arith)

-- merging keeps the answers to questions 1 to 4
module _ (own other : Index) where
  pub merged_one : question1 own ≡ true → question1 (merged own other) ≡ true
  unfolding question1 merged
  merged_one e = let n = merged_numbers own.scan other.scan in rw n.0 e

  pub merged_two : question2 own ≡ true → question2 (merged own other) ≡ true
  unfolding question2 merged
  merged_two e = let n = merged_numbers own.scan other.scan in rw (n.1, n.2) e

  pub merged_three : (l : Lengths) → question3 l own ≡ true → question3 l (merged own other) ≡ true
  unfolding question3 merged
  merged_three l e = let n = merged_numbers own.scan other.scan in rw (n.0, n.1, n.2) e

  pub merged_four : question4 own ≡ true → question4 other ≡ true → question41 own other ≡ true → question43 own other ≡ true → question4 (merged own other) ≡ true
  unfolding question4 question41 merged
  merged_four e d q q' =
      →all _ (merge_closed own other (scan_of own e) (scan_of other d) q q', (merged_holds own other (same_area_eq _ _ (all→ _ q).0) (holds_of own e) (holds_of other d), tt))

  pub merged_fits : sized own ≡ true → sized other ≡ true → sized (merged own other) ≡ true
  unfolding sized merged
  merged_fits h k =
      let a = all→ _ h in let b = all→ _ k in
      →all _ (
        merged_sized own.scan other.scan a.0 b.0,
        (
          hinting.merge_sized own.scan.area own.fingerprint own.hinting other.hinting a.1.0 b.1.0,
          (hinting.merge_known own.fingerprint other.fingerprint a.1.1.0 b.1.1.0, tt),
        ),
      )

-- and so does loading with a limit
module _ (limit : ℕ) (x : Index) where
  pub limited_two : question2 x ≡ true → question2 (limited limit x) ≡ true
  unfolding question2 numbers_ok limited
  limited_two e = let h = all→ _ e in →all _ (h.0, (h.1.0, (low x.scan.budget max32 limit h.1.1.0, tt)))

  pub limited_three : (l : Lengths) → question3 l x ≡ true → question3 l (limited limit x) ≡ true
  unfolding question3 scan_room limited
  limited_three l e =
      let h = all→ _ e in let r = all→ _ h.0 in
      →all _ (
        →all _ (r.0, (r.1.0, (r.1.1.0, (low x.scan.budget l.store limit r.1.1.1.0, tt)))),
        (h.1.0, (hinting.limit_room l limit x.hinting h.1.1.0, tt)),
      )

  pub limited_four : question4 x ≡ true → question4 (limited limit x) ≡ true
  unfolding question4 limited
  limited_four e = →all _ (limit_closed limit x.scan (scan_of x e), (hinting.limit_ok x.scan.area x.fingerprint limit x.hinting (holds_of x e), tt))

  pub limited_fits : sized x ≡ true → sized (limited limit x) ≡ true
  unfolding sized limited
  limited_fits e =
      let h = all→ _ e in
      →all _ (limited_sized limit x.scan h.0, (hinting.limit_sized limit x.hinting h.1.0, (rw hinting.unmarked_stated h.1.1.0, tt)))
