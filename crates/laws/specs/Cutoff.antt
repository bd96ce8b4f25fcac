-- Thinning by a cutoff: all gaps below it go, and the first few at it.
use Rattle.std.specs.Prelude.{◌≡◌, ℕ, ◌+◌, ◌≤◌, Bool, ◌&&◌, ◌||◌, List, leb, ltb, eqb}
use Rattle.rules.specs.declared.Hint.{Hint}
use Rattle.rules.specs.Hints.{count_of, gap}

unfoldable pub below : List Hint → ℕ → ℕ → Bool
below hs g k = ltb (gap hs k) g

unfoldable pub level : List Hint → ℕ → ℕ → Bool
level hs g k = eqb (gap hs k) g

-- is place i kept where all gaps below c go, and the first r at c?
unfoldable pub stays : List Hint → ℕ → ℕ → ℕ → Bool
stays hs c r i = ltb c (gap hs i) || (eqb (gap hs i) c && leb r (count_of (level hs c) i))

-- what is asked of a cutoff: c with r drops e of the first n
pub record Cuts (hs : List Hint) (n e c r : ℕ) : Type 0 where
  pub sum : count_of (below hs c) n + r ≡ e
  pub most : e ≤ count_of (below hs (c + 1)) n
