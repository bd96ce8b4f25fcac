-- merge of two lists in their tables.
use Rattle.std.specs.Prelude.{ℕ, ◌+◌, ◌&&◌, cond, Bool, not, ◌||◌, eqb, ltb}
use Rattle.rules.specs.declared.AreaIndex.{AreaIndex}
use Rattle.rules.specs.Merge.{merge, merge_number}
use Rattle.rules.specs.Tests.{is_some}
use Rattle.tables.specs.Index.{Tables, room_of, index_in, kinds_in, kinded, tables_cleared, MadeOut, made_out_of, kinded_number}

-- up to which record number the hint table is written: both lists' hints, before they are thinned; at M = 0 the own ones stay
unfoldable pub hints_written : AreaIndex → AreaIndex → ℕ
hints_written x y = cond (eqb x.most 0) x.hints (x.hints + y.hints)

-- the answer, and the own tables afterwards
abbrev pub merge_in : AreaIndex → Tables → AreaIndex → Tables → MadeOut
merge_in x t y u =
    made_out_of (λ z. tables_cleared (hints_written x y) z t) t
    (kinded (kinds_in x t && kinds_in y u) (merge (room_of t) (index_in x t) (room_of u) (index_in y u)))

-- the other list goes further, by the numbers
unfoldable pub further_in : AreaIndex → AreaIndex → Bool
further_in x y = not (is_some x.ending) && (is_some y.ending || ltb x.checkpoints y.checkpoints)

-- the number of the rules, with the kind bytes of both; 0 for none
unfoldable pub merge_refusal : AreaIndex → Tables → AreaIndex → Tables → ℕ
merge_refusal x t y u = kinded_number (kinds_in x t && kinds_in y u) (merge_number (room_of t) (index_in x t) (room_of u) (index_in y u))
