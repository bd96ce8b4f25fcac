-- What the calls over a shelf answer, and its table afterwards.
use Rattle.std.specs.Prelude.{List, ℕ, min, Option, None, Some}
use Rattle.rules_shelf.specs.declared.Shelf.{Shelf}
use Rattle.rules_shelf.specs.declared.ShelfRecord.{ShelfRecord}
use Rattle.rules.specs.Tests.{Answer, Refused, Accepted}
use Rattle.rules_shelf.specs.Shelf.{area_of, After, enter, jump}
use Rattle.shelf.specs.declared.ShelfAnswer.{ShelfAnswer}

abbrev pub answer : ℕ → ℕ → ℕ → ℕ → ShelfAnswer
answer number absent present count = record { number = number; absent = absent; present = present; count = count }

-- what a call answers, and the table afterwards
pub record ShelfOut : Type 0 where
  pub answer : ShelfAnswer
  pub table : List ShelfRecord

abbrev pub shelf_out : ShelfAnswer → List ShelfRecord → ShelfOut
shelf_out r t = record { answer = r; table = t }

-- a refusal and an absent area leave numbers and table
unfoldable pub shelf_out_of : Shelf → List ShelfRecord → Answer (Option After) → ShelfOut
shelf_out_of x t (Refused n) = shelf_out (answer n 0 x.present x.count) t
shelf_out_of x t (Accepted None) = shelf_out (answer 0 1 x.present x.count) t
shelf_out_of x t (Accepted (Some y)) = shelf_out (answer 0 0 y.shelf.present y.shelf.count) y.table

unfoldable pub some_of : {A : Type 0} → Answer A → Answer (Option A)
some_of (Refused n) = Refused n
some_of (Accepted a) = Accepted (Some a)

unfoldable pub enter_call : Shelf → List ShelfRecord → ShelfRecord → ShelfOut
enter_call x t g = shelf_out_of x t (some_of (enter x t (area_of g) g.len))

unfoldable pub jump_call : Shelf → List ShelfRecord → ShelfRecord → ShelfOut
jump_call x t g = shelf_out_of x t (jump x t (area_of g))

-- how many records are taken of a table of room records
unfoldable pub clamp : Shelf → ℕ → ℕ
clamp x room = min (min x.present 64) room
