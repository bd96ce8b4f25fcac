-- Merging the lists of a set one after the other: what a turn needs, and what it leaves.
use Rattle.std.specs.Prelude.{ℕ, ◌≡◌, true, cond, List, ◌∷◌}
use Rattle.rules.specs.declared.Area.{Area}
use Rattle.rules.specs.declared.AreaIndex.{AreaIndex}
use Rattle.rules.specs.Values.{Index}
use Rattle.rules.specs.Merge.{merged, merge_number}
use Rattle.rules_drawer.specs.Drawer.{pairs_number, merge_each}
use Rattle.rules.specs.declared.Made.{Made}
use Rattle.rules.specs.declared.Made.TheVariants as made
use Rattle.tables.specs.Index.{Tables, room_of, index_in, kinds_in, numbers_from, tables_cleared, MadeOut, made_out}
use Rattle.index.specs.Steps.{Passes}
use Rattle.laws.specs.Statements.{Savable}
use Rattle.merge.specs.Merge.{hints_written}
use Rattle.merge.specs.Steps.{out_index}
use Rattle.drawer.specs.declared.ask.Entry.{Entry}
use Rattle.drawer.specs.declared.ask.Asked.{Asked}
use Rattle.drawer.specs.Ask.{list_at, lists_at, FileLoads, Held}
use Rattle.drawer.specs.Drawer.{merged_tables}

-- the numbers of the list that a call left: x where it is a refusal
unfoldable pub numbers_after : AreaIndex → Made → AreaIndex
numbers_after x (made.Refused n) = x
numbers_after x (made.Index y) = y

-- ---- one list
-- the file of the entry e loads, and nothing refuses a merge of its list into x
pub record Turning (a : Area) (x : AreaIndex) (t : Tables) (e : Entry) (b : List ℕ) (limit : ℕ) (u : Tables) : Type 0 where
  pub holds : FileLoads a b limit u e
  pub kinds : kinds_in x t ≡ true
  pub merges : merge_number (room_of t) (index_in x t) (room_of u) (list_at a b limit e) ≡ 0

-- the list y merged into that of x and t
unfoldable pub turn_in : AreaIndex → Tables → Index → MadeOut
turn_in x t y =
    out_index (numbers_from (merged (index_in x t) y)) (tables_cleared (hints_written x (numbers_from y)) (merged (index_in x t) y) t)

-- ---- all lists
pub record Turns (a : Area) (x : AreaIndex) (t : Tables) (s : Asked) (b : List ℕ) (limit : ℕ) (u : Tables) : Type 0 where
  pub ok : s.ok ≡ true
  pub own : Passes x t
  pub savable : Savable (index_in x t)
  pub held : Held a b limit u s
  pub pairs : pairs_number (index_in x t ∷ lists_at a b limit s) ≡ 0

-- the lists ys merged into that of x and t
unfoldable pub turns_in : AreaIndex → Tables → List Index → MadeOut
turns_in x t ys = out_index (numbers_from (merge_each (index_in x t) ys)) (merged_tables (index_in x t) ys t)

-- the refusal of the set s, or its lists ys merged into that of x and t
unfoldable pub turns_out : AreaIndex → Tables → Asked → List Index → MadeOut
turns_out x t s ys = cond s.ok (turns_in x t ys) (made_out (made.Refused s.number) t)
