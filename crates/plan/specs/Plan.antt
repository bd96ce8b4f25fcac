-- What plan answers: the call of the rules on the list that the tables hold.
use Rattle.std.specs.Prelude.{ℕ, ◌+◌, Bool, List, leb, length}
use Rattle.rules.specs.declared.AreaIndex.{AreaIndex}
use Rattle.rules.specs.declared.Plan.{Plan}
use Rattle.rules.specs.Tests.{Answer}
use Rattle.rules.specs.Plan.{plan}
use Rattle.tables.specs.Index.{Tables, room_of, index_in, kinds_in, kinded}

unfoldable pub plan_in : AreaIndex → Tables → ℕ → Answer Plan
plan_in x t first = kinded (kinds_in x t) (plan (room_of t) (index_in x t) first)

-- do len bytes from offset on lie in a store?
unfoldable pub lies_in : List ℕ → ℕ → ℕ → Bool
lies_in store offset len = leb (offset + len) (length store)
