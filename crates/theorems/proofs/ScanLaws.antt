-- How far a list goes, and that merging takes the further of two. Assumes nothing.
use mathlib.Core.Path.{◌≡◌, refl, sym, ap₂, ◌∙◌}
use mathlib.Core.Bool.{Bool, true, false, ◌&&◌, ◌||◌, not}
use mathlib.Core.Logic.{◌⊎◌, inl, inr}
use Prim.Native.Nat.{ℕ, ◌+◌, ◌≤◌}
use native.Mathlib.Omega.{arith}
use lib.Dec.{ltb}
use lib.ListN.{drop, length-append, length-drop}
use borrow.Author.Tests.{ltb-true, ltb-false, lt-ltb, le-ltb}
use Rattle.rules.specs.Values.{Scan, boundaries, count, complete}
use Rattle.rules.specs.Merge.{further, merged_scan}
use Rattle.rules.proofs.Tests.{test}
use Rattle.laws.proofs.scans.Scans.{ScanIs}
use Rattle.laws.proofs.scans.Merge.{further_count}

-- what question 4 says of the count
pub record Counts (x : Scan) : Type 0 where
  pub within : count x ≤ boundaries x.area x.interval
  pub full : complete x ≡ true → count x ≡ boundaries x.area x.interval

pub counts : (x : Scan) → ScanIs x → Counts x
counts x ok =
    let s = ok.stretch in record {
      within = let w = s.within in omega arith;
      full = λ v. let w = s.full v in omega arith;
    }

-- how far a list goes: its checkpoints, and one more if it is complete
abbrev pub one : Bool → ℕ
one true = 1
one false = 0

pub one_most : (b : Bool) → one b ≤ 1
one_most true = omega arith
one_most false = omega arith

unfoldable pub level : Scan → ℕ
level x = count x + one (complete x)

level_test : (b n m : ℕ) (w v : Bool) → n ≤ b → (w ≡ true → n ≡ b) → m ≤ b → (v ≡ true → m ≡ b)
    → (not w && (v || ltb n m)) ≡ ltb (n + one w) (m + one v)
level_test b n m true true l f k g = let x = f refl in let y = g refl in sym (le-ltb (n + 1) (m + 1) (omega arith))
level_test b n m true false l f k g = let x = f refl in sym (le-ltb (n + 1) (m + 0) (omega arith))
level_test b n m false true l f k g = let y = g refl in sym (lt-ltb (n + 0) (m + 1) (omega arith))
level_test b n m false false l f k g = let x : n + 0 ≡ n = omega arith in let y : m + 0 ≡ m = omega arith in rw (x, y)

module _ (own other : Scan) (ok : ScanIs own) (ok' : ScanIs other) (ea : own.area ≡ other.area)
    (ei : own.interval ≡ other.interval) where
  -- the other list is taken where its level is higher
  further_level : further own other ≡ ltb (level own) (level other)
  unfolding further level
  further_level =
      let c = counts own ok in let d = counts other ok' in let b = ap₂ boundaries ea ei in
      level_test (boundaries own.area own.interval) (count own) (count other) (complete own) (complete other)
      c.within c.full
      (let x = d.within in omega arith) (λ v. d.full v ∙ sym b)

  -- merging takes the larger level
  pub merged_level : ((level (merged_scan own other) ≡ level own) × (level other ≤ level own)) ⊎
      ((level (merged_scan own other) ≡ level other) × (level own ≤ level other))
  unfolding merged_scan level
  merged_level =
      let fl : further own other ≡ ltb (level own) (level other) = further_level in
      test (further own other)
      (λ f.
      let x = ltb-true (level own) (level other) (sym fl ∙ f) in let n = further_count own other ok ok' ea ei f in
      let l = length-append own.checkpoints (drop (count own) other.checkpoints) in let m = length-drop
      (count own) other.checkpoints in
      rw f (inr (omega arith, omega arith)))
      (λ f. rw f (inl (refl, ltb-false (level own) (level other) (sym fl ∙ f))))
