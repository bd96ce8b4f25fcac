-- What the steps of adds need of the tables, and what they answer.
use Rattle.std.specs.Prelude.{◌≡◌, ℕ, ◌*◌, ◌≤◌, Bool, false, ◌&&◌, ◌||◌, not, cond, List, [], ◌∷◌, ltb, length}
use Rattle.rules.specs.declared.AreaIndex.{AreaIndex}
use Rattle.rules.specs.declared.Held.{Held}
use Rattle.rules.specs.declared.Brings.{Brings}
use Rattle.rules.specs.Values.{Frame, used}
use Rattle.rules.specs.PartRule.{Stored, stores, piece}
use Rattle.rules.specs.Merge.{merged}
use Rattle.tables.specs.Tables.{frames_in, parts_in}
use Rattle.tables.specs.Index.{Tables, index_in}
use Rattle.parts.specs.declared.Counts.{Counts}
use Rattle.parts.specs.Parts.{PartTables, stored_in}
use Rattle.parts.specs.Steps.{Lent, CountsReady}
use Rattle.adds.specs.Adds.{brings_of}

-- would one of the parts ps, of frames fs, for checkpoint number n or later be stored beside those of h?
unfoldable pub some_stored : ℕ → List Frame → ℕ → List Held → Stored → Bool
some_stored budget fs n [] h = false
some_stored budget fs n (p ∷ ps) h = (not (ltb p.at n) && stores budget h (piece fs p)) || some_stored budget fs n ps h

-- ---- held parts in the tables
pub record PartsRead (go : Bool) (x y : AreaIndex) (t u : PartTables) : Type 0 where
  pub own : x.frames * 8 ≤ length t.frames
  pub lent : Lent y.frames (cond go y.parts 0) u
  pub ready : (c : Counts) → c.frames ≡ x.frames → c.parts ≡ x.parts
      → c.used ≡ used (frames_in x.frames t.frames t.store) → CountsReady x.budget c t

unfoldable pub parts_change : Bool → AreaIndex → AreaIndex → PartTables → PartTables → Bool
parts_change go x y t u =
    some_stored x.budget (frames_in y.frames u.frames u.store) x.checkpoints
    (parts_in (cond go y.parts 0) u.parts) (stored_in x.frames x.parts t)

-- ---- all of it
unfoldable pub brings_in : AreaIndex → Tables → AreaIndex → Tables → Brings
brings_in x t y u = brings_of (index_in x t) (merged (index_in x t) (index_in y u))
