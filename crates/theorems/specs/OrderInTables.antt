-- Change request 13 about the tables that players hold, as merge leaves them.
use Rattle.std.specs.Prelude.{ℕ, ◌≡◌, true, List, [], ◌∷◌}
use Rattle.rules.specs.declared.Area.{Area}
use Rattle.tables.specs.Index.{kinds_in}
use Rattle.theorems.specs.TableRun.{TablePlace, TableCall, merge_tables, TableState, begin_tables, table_run, place_in, state_in, LentIn}
use Rattle.theorems.specs.Order.{Together, Merge, Gathered}

unfoldable pub merge_table_calls : List Merge → List TableCall
merge_table_calls [] = []
merge_table_calls (m ∷ ms) = merge_tables m.into m.from ∷ merge_table_calls ms

abbrev pub after_table_merges : Area → (ℕ → TablePlace) → List Merge → TableState
after_table_merges a p ms = table_run a (merge_table_calls ms) (begin_tables p)

-- numbers of their types, bytes, and parts that have kinds, as 4 asks of tables
pub record LentPlace (p : TablePlace) : Type 0 where
  pub lent : LentIn p.numbers p.tables
  pub kinds : kinds_in p.numbers p.tables ≡ true

abbrev pub HintsGatheredInTables : Type 0
HintsGatheredInTables =
    (p : ℕ → TablePlace) (a : Area) (k most : ℕ) → ((i : ℕ) → LentPlace (p i))
    → Together (λ i. place_in (p i)) a k most → (ms : List Merge) (i : ℕ)
    → Gathered (λ n. place_in (p n)) (state_in (after_table_merges a p ms)) i
