-- What loading answers, and what the tables hold afterwards.
use Rattle.std.specs.Prelude.{ℕ, List}
use Rattle.rules.specs.declared.Area.{Area}
use Rattle.rules.specs.Load.{load}
use Rattle.tables.specs.Index.{Tables, room_of, tables_from, MadeOut, made_out_of}

-- from_bytes: an accepted list stands at the start of its tables, and what lies past it stays
abbrev pub load_in : Area → List ℕ → ℕ → Tables → MadeOut
load_in a b limit t = made_out_of (λ y. tables_from y t) t (load (room_of t) a b limit)
