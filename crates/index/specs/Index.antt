-- What the calls on an index answer: those of the rules on the list that the tables hold.
use Rattle.std.specs.Prelude.{ℕ, Bool, List, []}
use Rattle.rules.specs.declared.Area.{Area}
use Rattle.rules.specs.declared.AreaIndex.{AreaIndex}
use Rattle.rules.specs.declared.Made.{Made}
use Rattle.rules.specs.declared.Made.TheVariants as made
use Rattle.rules.specs.Tests.{Answer, Refused, Accepted}
use Rattle.rules.specs.Values.{Index}
use Rattle.rules.specs.Create.{new, bind_fingerprint}
use Rattle.rules.specs.Questions.{scan_room}
use Rattle.tables.specs.Index.{Tables, room_of, index_in, kinds_in, kinded, numbers_from, tables}

-- ---- answers that hold numbers
unfoldable pub numbers_of : Answer Index → Answer AreaIndex
numbers_of (Refused n) = Refused n
numbers_of (Accepted x) = Accepted (numbers_from x)

unfoldable pub made_of : Made → Answer AreaIndex
made_of (made.Refused n) = Refused n
made_of (made.Index x) = Accepted x

unfoldable pub new_in : Tables → Area → ℕ → ℕ → ℕ → ℕ → Answer AreaIndex
new_in t a k budget spacing most = numbers_of (new (room_of t) a k budget spacing most)

-- bind_fingerprint
unfoldable pub bound_in : AreaIndex → Tables → ℕ → Answer AreaIndex
bound_in x t v = numbers_of (kinded (kinds_in x t) (bind_fingerprint (room_of t) (index_in x t) v))

-- 3 of some of the tables
unfoldable pub scan_space : ℕ → ℕ → List ℕ → List ℕ → List ℕ → List ℕ → Bool
scan_space b budget cs fs store ps = scan_room (room_of (tables cs fs store ps [] [] [])) b budget
