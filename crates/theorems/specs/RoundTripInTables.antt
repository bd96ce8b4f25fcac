-- Demand 2 about the calls over lent tables: saving, then loading what was written, and the other way round.
use Rattle.std.specs.Prelude.{◌≡◌, true, List, ℕ, ◌*◌, ◌≤◌, length, take}
use Rattle.field.specs.Records.{Bytes}
use Rattle.rules.specs.declared.Area.{Area}
use Rattle.rules.specs.declared.AreaIndex.{AreaIndex}
use Rattle.rules.specs.Tests.{Accepted}
use Rattle.rules.specs.Values.{Index}
use Rattle.rules.specs.Questions.{question3}
use Rattle.rules.specs.Load.{from_bytes}
use Rattle.laws.specs.Statements.{stripped}
use Rattle.rules.specs.declared.Made.TheVariants as made
use Rattle.rules.specs.File.{over}
use Rattle.tables.specs.Index.{Tables, room_of, index_in, MadeOut, made_out}
use Rattle.tables.specs.Lent.{Typed, TableBytes}
use Rattle.save.specs.Save.{save_in}
use Rattle.save.specs.Save as saving
use Rattle.load.specs.Load.{load_in}

-- a call answered the numbers of a list, and its tables then hold that list
pub record HoldsList (o : MadeOut) (x : Index) : Type 0 where
  pub numbers : AreaIndex
  pub answer : o.answer ≡ made.Index numbers
  pub list : index_in numbers o.tables ≡ x

-- a saved list loads as itself, image id and checked mark apart: k bytes of out are the file, the limit is large enough, and t' has room
abbrev pub SavedLoadsIn : Type 0
SavedLoadsIn =
    (x : AreaIndex) (t : Tables) (old : List ℕ) (k : ℕ) (new : List ℕ) (limit : ℕ) (t' : Tables) → Typed x
    → TableBytes t
    → save_in x t old ≡ saving.made (Accepted k) new → x.budget ≤ limit → 16 * x.most ≤ limit
    → question3 (room_of t') (index_in x t) ≡ true
    → HoldsList (load_in x.area (take k new) limit t') (stripped (index_in x t))

-- an accepted file b saves as its own bytes: the limit is large enough for the file's list x, and the output is as long as the file
abbrev pub LoadedSavesIn : Type 0
LoadedSavesIn =
    (a : Area) (b : List ℕ) (limit : ℕ) (t : Tables) (x : Index) (y : AreaIndex) (t' : Tables) (old : List ℕ) → Bytes b
    → from_bytes a b ≡ Accepted x → x.scan.budget ≤ limit → 16 * x.hinting.most ≤ limit
    → load_in a b limit t ≡ made_out (made.Index y) t' → length b ≤ length old → save_in y t' old
    ≡ saving.made (Accepted (length b)) (over b old)
