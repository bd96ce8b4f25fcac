-- The steps of loading: what is decided, and what writing the tables needs of it.
use Rattle.std.specs.Prelude.{◌≡◌, true, ℕ, List}
use Rattle.rules.specs.declared.Area.{Area}
use Rattle.rules.specs.declared.AreaIndex.{AreaIndex}
use Rattle.rules.specs.Tests.{Refused}
use Rattle.rules.specs.Questions.{question3}
use Rattle.rules.specs.Load.{load}
use Rattle.tables.specs.Index.{Tables, room_of, numbers_from}
use Rattle.inspect.specs.declared.Found.{Found}
use Rattle.load.specs.Limit.{limited_in, Accepts}
use Rattle.load.specs.declared.Decided.{Decided}
use Rattle.load.specs.declared.Decided.TheVariants as decided

-- the file was accepted, and the tables have room for the limited list, whose numbers are y
pub record Loadable (a : Area) (b : List ℕ) (limit : ℕ) (found : Found) (y : AreaIndex) (t : Tables) : Type 0 where
  pub accepts : Accepts a b found
  pub numbers : y ≡ numbers_from (limited_in a b limit)
  pub room : question3 (room_of t) (limited_in a b limit) ≡ true

-- what the answer of the questions says
pub record Decision (a : Area) (b : List ℕ) (limit : ℕ) (t : Tables) (r : Decided) : Type 0 where
  pub refused : (n : ℕ) → r ≡ decided.Refused n → load (room_of t) a b limit ≡ Refused n
  pub ready : (found : Found) (y : AreaIndex) → r ≡ decided.Ready found y → Loadable a b limit found y t
