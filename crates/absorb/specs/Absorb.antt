-- absorb of a recorder into an index, in their tables.
use Rattle.std.specs.Prelude.{ℕ, Bool, ◌&&◌, cond, List, eqb, Option}
use Rattle.rules.specs.declared.AreaIndex.{AreaIndex}
use Rattle.rules.specs.declared.Recorder.{Recorder}
use Rattle.rules.specs.Values.{Index}
use Rattle.rules.specs.Values as values
use Rattle.rules.specs.Record.{absorb}
use Rattle.rules.specs.Record as rules
use Rattle.tables.specs.Index.{numbers_from, Tables, room_of, index_in, kinds_in, or_four, tables_from}
use Rattle.tables.specs.Recorder.{RecorderTables, recorder_room, recorder_in, recorder_kinds, recorder_from}
use Rattle.tables.specs.Tables.{given_in}
use Rattle.rules.specs.declared.Absorbed.{Absorbed}

-- the answer, and the index's tables; the recorder's are only read
pub record AbsorbedOut : Type 0 where
  pub answer : Absorbed
  pub tables : Tables

abbrev pub absorbed_out : Absorbed → Tables → AbsorbedOut
absorbed_out a t = record { answer = a; tables = t }

abbrev pub absorbed : ℕ → AreaIndex → Recorder → Absorbed
absorbed n x r = record { number = n; index = x; recorder = r }

-- 4 where a kind is none, after 1 to 3, and nothing changes
unfoldable pub kinded_both : Bool → Index → values.Recorder → rules.Absorbed → rules.Absorbed
kinded_both ok x r a = cond ok a (record { number = or_four a.number; index = x; recorder = r })

-- a refusal changes no table; an accepted index is put into them
unfoldable pub absorbed_out_of : Tables → rules.Absorbed → AbsorbedOut
absorbed_out_of t a = absorbed_out (absorbed a.number (numbers_from a.index) (recorder_from a.recorder)) (cond (eqb a.number 0) (tables_from a.index t) t)

-- given is the bytes of the malformed LSNs of the reading
unfoldable pub absorb_in : AreaIndex → Tables → Option ℕ → List ℕ → Recorder → RecorderTables → AbsorbedOut
absorb_in x t image given r u =
    absorbed_out_of t
    (kinded_both (kinds_in x t && recorder_kinds r u) (index_in x t) (recorder_in r u)
    (absorb (room_of t) (index_in x t) (recorder_room u) (recorder_in r u) image (given_in given)))
