-- keep_hint on an index in its tables.
use Rattle.std.specs.Prelude.{ℕ}
use Rattle.rules.specs.declared.AreaIndex.{AreaIndex}
use Rattle.rules.specs.Hints.{keep_hint}
use Rattle.tables.specs.Index.{Tables, room_of, index_in, kinds_in, kinded, tables_from, MadeOut, made_out_of}

-- the answer and the tables
unfoldable pub keep_hint_in : AreaIndex → Tables → ℕ → MadeOut
keep_hint_in x t lsn = made_out_of (λ y. tables_from y t) t (kinded (kinds_in x t) (keep_hint (room_of t) (index_in x t) lsn))
