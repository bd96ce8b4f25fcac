-- Saving: an index in its tables, written into a lent output.
use Rattle.std.specs.Prelude.{ℕ, List, length}
use Rattle.rules.specs.declared.AreaIndex.{AreaIndex}
use Rattle.rules.specs.Tests.{Answer, Refused, Accepted}
use Rattle.rules.specs.File.{save, over}
use Rattle.tables.specs.Index.{Tables, room_of, index_in, kinds_in, kinded}

-- what it answers, and the output afterwards
pub record SaveOut : Type 0 where
  pub answer : Answer ℕ
  pub out : List ℕ

abbrev pub made : Answer ℕ → List ℕ → SaveOut
made r o = record { answer = r; out = o }

unfoldable pub save_out : Answer (List ℕ) → List ℕ → SaveOut
save_out (Refused n) old = made (Refused n) old
save_out (Accepted b) old = made (Accepted (length b)) (over b old)

-- 1 to 4, 40: is the output long enough? What lies past the length stays.
unfoldable pub save_in : AreaIndex → Tables → List ℕ → SaveOut
save_in x t out = save_out (kinded (kinds_in x t) (save (room_of t) (index_in x t) (length out))) out
