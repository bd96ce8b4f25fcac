-- Change request 8: what holds of FNV-1a and of its folded sums, with the width as parameter.
use Rattle.std.specs.Prelude.{◌≡◌, true, List, [], ◌∷◌, ◌++◌, ℕ, ◌^◌, ◌<◌}
use Rattle.fnv.specs.Fnv.{fnv_step, fnv_from, fnv64, prime64}
use Rattle.short_sum.specs.ShortSum.{fnv32, prime32, folded, question49}

-- at a width of w bits with the prime p
pub record Facts (w p : ℕ) : Type 0 where
  -- one byte more at the end is one step more
  pub stepping : (h : ℕ) (a : List ℕ) (b : ℕ) → fnv_from w p h (a ++ (b ∷ [])) ≡ fnv_step w p (fnv_from w p h a) b
  -- the sum of one stretch and another is that of the second from that of the first
  pub joining : (h : ℕ) (a b : List ℕ) → fnv_from w p h (a ++ b) ≡ fnv_from w p (fnv_from w p h a) b
  -- a sum from a number of w bits has w bits
  pub below : (h : ℕ) (a : List ℕ) → h < 2 ^ w → fnv_from w p h a < 2 ^ w
  -- a number of w bits that 49 lets fold down to k bits has k bits then
  pub folding : (k s : ℕ) → question49 w k ≡ true → s < 2 ^ w → folded k s < 2 ^ k

abbrev pub AtEveryWidth : Type 0
AtEveryWidth = (w p : ℕ) → Facts w p

-- the facts at 32 and at 64 bits, and the range of every folded sum of bytes
pub record AtBoth : Type 0 where
  pub at32 : Facts 32 prime32
  pub at64 : Facts 64 prime64
  pub short : (k : ℕ) (s : List ℕ) → question49 32 k ≡ true → folded k (fnv32 s) < 2 ^ k
  pub long : (k : ℕ) (s : List ℕ) → question49 64 k ≡ true → folded k (fnv64 s) < 2 ^ k
