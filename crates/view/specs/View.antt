-- A view of an index in its tables, written into a lent output.
use Rattle.std.specs.Prelude.{ℕ, List, [], ◌∷◌, length}
use Rattle.rules.specs.declared.AreaIndex.{AreaIndex}
use Rattle.rules.specs.Tests.{Answer, Refused, Accepted, after, ask, first_no}
use Rattle.rules.specs.File.{over}
use Rattle.rules_view.specs.View.{is_role, view, view_size}
use Rattle.blocks.specs.Blocks.{is_index}
use Rattle.tables.specs.Index.{Tables, room_of, index_in, kinds_in, kinded}

-- what it answers, and the output afterwards
pub record ViewOut : Type 0 where
  pub answer : Answer ℕ
  pub out : List ℕ

abbrev pub viewed : Answer ℕ → List ℕ → ViewOut
viewed r o = record { answer = r; out = o }

unfoldable pub view_out : Answer (List ℕ) → List ℕ → ViewOut
view_out (Refused n) old = viewed (Refused n) old
view_out (Accepted b) old = viewed (Accepted (length b)) (over b old)

-- 52 before the kinds of parts
unfoldable pub in_role : {A : Type 0} → ℕ → Answer A → Answer A
in_role role r = after (first_no (ask (is_role role) 52 ∷ [])) r

-- 52, then 3 where the block with the list's numbers is no head: the number of the first answered no, 0 for none
unfoldable pub block_refusal : ℕ → List ℕ → ℕ
block_refusal role head = first_no (ask (is_role role) 52 ∷ ask (is_index head) 3 ∷ [])

-- 52, 1 to 4, 40: is the output long enough? What lies past the length stays.
unfoldable pub view_in : ℕ → AreaIndex → Tables → List ℕ → ViewOut
view_in role x t out = view_out (in_role role (kinded (kinds_in x t) (view role (room_of t) (index_in x t) (length out)))) out

-- the length that a view will have: 52, 1 to 4
unfoldable pub view_size_in : ℕ → AreaIndex → Tables → Answer ℕ
view_size_in role x t = in_role role (kinded (kinds_in x t) (view_size role (room_of t) (index_in x t)))
