-- All lists of a drawer together, in tables.
use Rattle.std.specs.Prelude.{ℕ, List, [], ◌∷◌}
use Rattle.rules.specs.declared.AreaIndex.{AreaIndex}
use Rattle.rules.specs.Tests.{Answer, Refused, Accepted, after}
use Rattle.rules.specs.Values.{Index}
use Rattle.rules.specs.Merge.{merged}
use Rattle.rules_drawer.specs.Drawer.{lengths_in, load_files, merge_all}
use Rattle.tables.specs.Index.{Tables, room_of, index_in, numbers_from, refusal, tables_cleared, MadeOut, made_out_of}
use Rattle.merge.specs.Merge.{hints_written}

-- the own tables t of x after the lists ys are merged into it one after the other
unfoldable pub merged_tables : Index → List Index → Tables → Tables
merged_tables x [] t = t
merged_tables x (y ∷ ys) t =
    merged_tables (merged x y) ys (tables_cleared (hints_written (numbers_from x) (numbers_from y)) (merged x y) t)

-- the lists of files that load (none where one is refused)
unfoldable pub lists_of : Answer (List Index) → List Index
lists_of (Refused n) = []
lists_of (Accepted ys) = ys

-- the answer, and the own tables t afterwards; of the working tables u nothing is said. ls are the lengths in bytes, and b has the files end to end
abbrev pub merge_all_in : AreaIndex → Tables → List ℕ → List ℕ → ℕ → Tables → MadeOut
merge_all_in x t ls b limit u =
    made_out_of (λ z. merged_tables (index_in x t) (lists_of (load_files (room_of u) x.area (lengths_in ls) b limit)) t) t
    (after (refusal x t) (merge_all (room_of t) (index_in x t) (room_of u) (lengths_in ls) b limit))
