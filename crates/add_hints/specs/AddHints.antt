-- add_hints on an index in its tables.
use Rattle.std.specs.Prelude.{ℕ, ◌+◌, ◌/◌, List, cond, eqb, length}
use Rattle.rules.specs.declared.AreaIndex.{AreaIndex}
use Rattle.rules.specs.Hints.{add_hints}
use Rattle.tables.specs.Index.{Tables, room_of, index_in, kinds_in, kinded, tables_cleared, MadeOut, made_out_of}
use Rattle.tables.specs.Tables.{hints_of}

-- up to which record number the table is written
unfoldable pub touched : ℕ → ℕ → List ℕ → ℕ
touched most s list = cond (eqb most 0) s (s + length list / 8)

-- the answer and the tables: the hint table is cleared behind the hints, up to where they and the list would end
unfoldable pub add_hints_in : AreaIndex → Tables → List ℕ → MadeOut
add_hints_in x t list =
    made_out_of (λ y. tables_cleared (touched x.most x.hints list) y t) t
    (kinded (kinds_in x t) (add_hints (room_of t) (index_in x t) (hints_of list)))
