-- Change request 2: what the row of a file has to do with loading it.
use Rattle.std.specs.Prelude.{ℕ, ◌*◌, ◌≤◌, ◌<◌, ◌≡◌, true, false, List, ◌≢◌, leb}
use Rattle.rules.specs.Tests.{Refused, Accepted}
use Rattle.rules.specs.Values.{Index, Lengths}
use Rattle.rules.specs.Questions.{question3, question4}
use Rattle.rules.specs.Load.{limited, load}
use Rattle.rules_coverage.specs.declared.Row.{Row}
use Rattle.rules_coverage.specs.Coverage.{key_in, area_in, range_ok, row_from, row_of}

-- "the area taken from the file itself": 26 never comes
abbrev pub OwnKey : Type 0
OwnKey = (b : List ℕ) (s e : ℕ) → row_of b s e ≢ Refused 26

-- a slot above 1 in the file is 24 in its turn: behind 1 of the range the file is refused, with a number below 25
abbrev pub OwnSlot : Type 0
OwnSlot = (b : List ℕ) (s e : ℕ) → range_ok s e ≡ true → leb (key_in b).slot 1 ≡ false → (n : ℕ)
    × ((row_of b s e ≡ Refused n) × (n < 25))

pub record RowIsLoading : Type 0 where
  -- a file with a row loads under that area, in tables that are long enough, under every limit; the row is that of its list
  pub loads : (b : List ℕ) (s e : ℕ) (r : Row) → row_of b s e ≡ Accepted r
      → (x : Index) × ((r ≡ row_from x) × ((l : Lengths) (limit : ℕ) → question3 l (limited limit x) ≡ true
      → load l (area_in b s e) b limit ≡ Accepted (limited limit x)))
  -- a file that loads under that area has a row
  pub accepted : (l : Lengths) (b : List ℕ) (s e limit : ℕ) (y : Index) → load l (area_in b s e) b limit ≡ Accepted y
      → (x : Index) × ((y ≡ limited limit x) × (row_of b s e ≡ Accepted (row_from x)))
  -- a limit that drops nothing leaves the three numbers: count, boundaries and frame bytes of the loaded list
  pub numbers : (limit : ℕ) (x : Index) → question4 x ≡ true → x.scan.budget ≤ limit
      → 16 * x.hinting.most ≤ limit → row_from (limited limit x) ≡ row_from x
