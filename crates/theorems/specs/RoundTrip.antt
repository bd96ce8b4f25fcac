-- Demand 2: saving, then loading, and the other way round.
use Rattle.std.specs.Prelude.{ℕ, ◌≤◌, ◌≡◌, true, List, length}
use Rattle.field.specs.Records.{Bytes}
use Rattle.rules.specs.declared.Area.{Area}
use Rattle.rules.specs.Tests.{Accepted}
use Rattle.rules.specs.Values.{Index, Lengths}
use Rattle.rules.specs.Questions.{question3}
use Rattle.rules.specs.Sizes.{sized}
use Rattle.rules.specs.File.{save}
use Rattle.rules.specs.Load.{limited, from_bytes, load}
use Rattle.laws.specs.Statements.{stripped}
use Rattle.theorems.specs.Terms.{Ample}

-- a saved list loads as itself, image id, checked mark and kept marks apart, in tables that are long enough and under a limit that drops nothing
abbrev pub SavedLoads : Type 0
SavedLoads =
    (l m : Lengths) (x : Index) (out limit : ℕ) (b : List ℕ) → sized x ≡ true → save l x out ≡ Accepted b
    → question3 m x ≡ true → Ample limit x
    → load m x.scan.area b limit ≡ Accepted (stripped x)

-- under any limit it loads as the limited list
abbrev pub LimitedLoads : Type 0
LimitedLoads =
    (l m : Lengths) (x : Index) (out limit : ℕ) (b : List ℕ) → sized x ≡ true → save l x out ≡ Accepted b
    → question3 m (limited limit x) ≡ true
    → load m x.scan.area b limit ≡ Accepted (limited limit x)

-- an accepted file, loaded under a limit that drops nothing of its list x, is saved as its own bytes where the output is long enough
abbrev pub LoadedSaves : Type 0
LoadedSaves =
    (l : Lengths) (a : Area) (b : List ℕ) (limit out : ℕ) (x y : Index) → Bytes b → from_bytes a b ≡ Accepted x
    → Ample limit x → load l a b limit ≡ Accepted y
    → length b ≤ out → save l y out ≡ Accepted b
