-- The statements of change request 2.
use Rattle.std.specs.Prelude.{ℕ, ◌+◌, ◌*◌, ◌≤◌, ◌<◌, ◌≡◌, true, List, [], ◌∷◌, ◌++◌, length, take, None, Some}
use Rattle.rules.specs.Tests.{Answer, Refused, Accepted}
use Rattle.rules_coverage.specs.declared.Row.{Row}
use Rattle.rules_coverage.specs.Lines.{Line, is_name, is_number, value_from, line_of}
use Rattle.rules_coverage.specs.Coverage.{coverage, totals}

-- ---- totals
-- the rows that were accepted
unfoldable pub accepted_rows : List (Answer Row) → List Row
accepted_rows [] = []
accepted_rows (Refused n ∷ rs) = accepted_rows rs
accepted_rows (Accepted r ∷ rs) = r ∷ accepted_rows rs

-- the sum of a number of each row
unfoldable pub sum_of : (Row → ℕ) → List Row → ℕ
sum_of f [] = 0
sum_of f (r ∷ rs) = f r + sum_of f rs

-- "the totals, proved equal to sums over the accepted files"
pub record TotalsAreSums : Type 0 where
  pub checkpoints : (rs : List (Answer Row)) → (totals rs).checkpoints ≡ sum_of (λ r. r.checkpoints) (accepted_rows rs)
  pub boundaries : (rs : List (Answer Row)) → (totals rs).boundaries ≡ sum_of (λ r. r.boundaries) (accepted_rows rs)
  pub held : (rs : List (Answer Row)) → (totals rs).held ≡ sum_of (λ r. r.held) (accepted_rows rs)

-- "and the coverage of these sums": 10000 without boundaries, else rounded down
pub record TotalCoverage : Type 0 where
  pub without : (rs : List (Answer Row)) → sum_of (λ r. r.boundaries) (accepted_rows rs) ≡ 0 → coverage (totals rs) ≡ 10000
  pub low : (rs : List (Answer Row)) → 0 < sum_of (λ r. r.boundaries) (accepted_rows rs)
      → coverage (totals rs) * sum_of (λ r. r.boundaries) (accepted_rows rs) ≤ sum_of (λ r. r.checkpoints) (accepted_rows rs) * 10000
  pub high : (rs : List (Answer Row)) → 0 < sum_of (λ r. r.boundaries) (accepted_rows rs)
      → sum_of (λ r. r.checkpoints) (accepted_rows rs) * 10000 < (coverage (totals rs) + 1) * sum_of (λ r. r.boundaries) (accepted_rows rs)

-- ---- lines
-- a line of the right shape is its name, a space, digits of its start, a space, and digits of its end
pub record Written (s : List ℕ) (l : Line) : Type 0 where
  pub first : List ℕ
  pub last : List ℕ
  pub is : s ≡ l.name ++ (32 ∷ (first ++ (32 ∷ last)))
  pub name : is_name l.name ≡ true
  pub start : (is_number first ≡ true) × (value_from 0 first ≡ l.start)
  pub end : (is_number last ≡ true) × (value_from 0 last ≡ l.end)

-- the printed name is the line's
abbrev pub NameBack : Type 0
NameBack = (s : List ℕ) (l : Line) → line_of s ≡ Some l → Written s l

-- the longest right line has 277 bytes, so that one that is cut at 278 says what the whole one says
pub record LongLines : Type 0 where
  pub broken : (s : List ℕ) → 277 < length s → line_of s ≡ None
  pub cut : (s : List ℕ) → line_of (take 278 s) ≡ line_of s
