-- What the functions of an index need of each other.
use Rattle.std.specs.Prelude.{◌≡◌, ℕ, ◌*◌, ◌≤◌, Bool, true, ◌&&◌, List, [], ◌∷◌, leb, length}
use Rattle.rules.specs.declared.AreaIndex.{AreaIndex}
use Rattle.rules.specs.declared.Area.{Area}
use Rattle.rules.specs.declared.Fingerprint.TheVariants.{Checked}
use Rattle.rules.specs.Tests.{all}
use Rattle.rules.specs.Values.{Scan, frontier, counted, max_hints}
use Rattle.rules.specs.Sections.{checkpoints_ok, ending_ok, malformed_ok}
use Rattle.rules.specs.Questions.{area_ok, numbers_ok, question4, held_ok, scan_ok, hinting_ok}
use Rattle.rules.specs.Create.{empty_index}
use Rattle.tables.specs.Index.{Tables, tables, index_in, kinds_in, room_in, numbers_from}

-- ---- 4 with the kind bytes
unfoldable pub held_question4 : AreaIndex → Tables → Bool
held_question4 x t = question4 (index_in x t) && kinds_in x t

-- ---- what functions need of each other
-- 1 to 3 hold of an index in its tables
pub record Roomy (x : AreaIndex) (t : Tables) : Type 0 where
  pub area : area_ok x.area ≡ true
  pub numbers : numbers_ok x.interval x.budget ≡ true
  pub room : room_in x t ≡ true

-- 1 to 4 hold
pub record Passes (x : AreaIndex) (t : Tables) : Type 0 where
  pub roomy : Roomy x t
  pub held : held_question4 x t ≡ true

-- each table has the records that are counted
pub record Long (x : AreaIndex) (cs fs ps ms : List ℕ) : Type 0 where
  pub checkpoints : x.checkpoints * 24 ≤ length cs
  pub frames : x.frames * 8 ≤ length fs
  pub parts : x.parts * 24 ≤ length ps
  pub malformed : x.malformed * 4 ≤ length ms

-- a scan's sections, its counts apart
unfoldable pub sections_ok : Scan → Bool
sections_ok x =
    all (checkpoints_ok x.interval 0 x.checkpoints ∷ held_ok x.area x.interval x.budget 0 x.checkpoints x.frames x.parts
    ∷ ending_ok x.area x.checkpoints x.ending ∷ malformed_ok x.area (frontier x) (counted x.checkpoints x.ending) x.malformed ∷ [])

-- the parts of 4
unfoldable pub sections_in : AreaIndex → Tables → Bool
sections_in x t = sections_ok (index_in x t).scan

unfoldable pub scan_in : AreaIndex → Tables → Bool
scan_in x t = scan_ok (index_in x t).scan

unfoldable pub hinting_in : AreaIndex → List ℕ → List ℕ → Bool
hinting_in x s c = hinting_ok x.area x.fingerprint (index_in x (tables [] [] [] [] [] s c)).hinting

-- the counts of hints and confirmations by M
unfoldable pub hint_counts : ℕ → ℕ → ℕ → Bool
hint_counts most s c = all (leb most max_hints ∷ leb s most ∷ leb c most ∷ [])

-- the numbers of an empty index
unfoldable pub fresh_of : Area → ℕ → ℕ → ℕ → ℕ → AreaIndex
fresh_of a k budget spacing most = numbers_from (empty_index a k budget spacing most)

-- with a checked fingerprint
unfoldable pub checked_of : AreaIndex → ℕ → AreaIndex
checked_of x v =
    record {
      area = x.area;
      interval = x.interval;
      budget = x.budget;
      spacing = x.spacing;
      most = x.most;
      checkpoints = x.checkpoints;
      frames = x.frames;
      parts = x.parts;
      malformed = x.malformed;
      hints = x.hints;
      confirmed = x.confirmed;
      ending = x.ending;
      fingerprint = Checked v;
      image = x.image;
    }
