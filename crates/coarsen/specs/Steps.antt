-- What the steps of coarsening need of the tables, and what they leave.
use Rattle.std.specs.Prelude.{◌≡◌, ℕ, ◌+◌, ◌-◌, ◌*◌, ◌/◌, ◌%◌, ◌≤◌, min, Bool, true, ◌||◌, List, [], ◌∷◌, eqb, leb, ltb, length, get_or}
use Rattle.rules.specs.declared.AreaIndex.{AreaIndex}
use Rattle.rules.specs.Tests.{all}
use Rattle.rules.specs.Values.{max_interval, max_malformed, counted, frontier_of}
use Rattle.rules.specs.Questions.{question3}
use Rattle.rules_coarsen.specs.Coarse.{every_nth, question47, coarser, coarse_fits}
use Rattle.tables.specs.Tables.{checkpoints_in, lsns_in, parts_in}
use Rattle.tables.specs.Index.{Tables, room_of, index_in, numbers_from, tables_from, MadeOut, made_out}
use Rattle.rules.specs.declared.Made.TheVariants as made
use Rattle.index.specs.Steps.{Passes}
use Rattle.parts.specs.declared.Counts.{Counts}
use Rattle.parts.specs.Parts.{PartTables}
use Rattle.parts.specs.Steps.{Lent, Room}
use Rattle.coarsen.specs.Laws.{multiples}

-- 47 of two intervals
unfoldable pub is_multiple : ℕ → ℕ → Bool
is_multiple k interval = all (leb 1 k ∷ leb k max_interval ∷ eqb (k % interval) 0 ∷ [])

-- how many every r-th of n are
abbrev pub kept_of : ℕ → ℕ → ℕ
kept_of n r = (n + r - 1) / r

-- the checkpoints are there, and m of them are kept
pub record Keeps (n m r : ℕ) (t : List ℕ) : Type 0 where
  pub there : n * 24 ≤ length t
  pub ratio : 1 ≤ r
  pub kept : m ≡ kept_of n r

-- how many malformed LSNs the coarser list counts
abbrev pub counted_in : AreaIndex → ℕ → List ℕ → ℕ
counted_in x r cs = counted (every_nth r (checkpoints_in x.checkpoints cs)) x.ending

-- 48 by a count, the malformed LSNs, and the new frontier
unfoldable pub last_below : ℕ → List ℕ → ℕ → Bool
last_below c ms front = eqb c 0 || ltb (get_or ms (min c max_malformed - 1) 0) front

-- the finer list's checkpoints and malformed LSNs are there, and k is a multiple of its interval
pub record Widens (x : AreaIndex) (k : ℕ) (cs ms : List ℕ) : Type 0 where
  pub interval : 1 ≤ x.interval
  pub ratio : 1 ≤ k / x.interval
  pub start : x.area.start ≤ 4294967295
  pub checkpoints : x.checkpoints * 24 ≤ length cs
  pub malformed : x.malformed * 4 ≤ length ms

-- 48 by the tables
unfoldable pub fits_in : AreaIndex → ℕ → List ℕ → List ℕ → Bool
fits_in x k cs ms =
    last_below (counted_in x (k / x.interval) cs) (lsns_in x.malformed ms)
    (frontier_of x.area k (kept_of x.checkpoints (k / x.interval)) x.ending)

-- ---- what is written
-- and there is space for those that are kept
pub record Copies (n m r : ℕ) (t u : List ℕ) : Type 0 where
  pub keeps : Keeps n m r t
  pub wide : r ≤ max_interval
  pub space : m * 24 ≤ length u

-- a list's f frames and h parts, and space for those of its parts that are kept
pub record PartsHeld (budget r f h : ℕ) (o t : PartTables) : Type 0 where
  pub ratio : 1 ≤ r
  pub lent : Lent f h o
  pub room : Room (length (multiples r (parts_in h o.parts))) budget (record { frames = 0; parts = 0; used = 0 }) t

-- ---- nothing refuses
pub record Coarsens (x : AreaIndex) (t : Tables) (k : ℕ) (u : Tables) : Type 0 where
  pub passes : Passes x t
  pub multiple : question47 k (index_in x t) ≡ true
  pub fits : coarse_fits k (index_in x t).scan ≡ true
  pub room : question3 (room_of u) (coarser k (index_in x t)) ≡ true

-- the numbers of the coarser list, of interval k, with these counts
unfoldable pub numbers_at : AreaIndex → ℕ → ℕ → Counts → ℕ → AreaIndex
numbers_at x k n c m =
    record {
      area = x.area;
      interval = k;
      budget = x.budget;
      spacing = x.spacing;
      most = x.most;
      checkpoints = n;
      frames = c.frames;
      parts = c.parts;
      malformed = m;
      hints = x.hints;
      confirmed = x.confirmed;
      ending = x.ending;
      fingerprint = x.fingerprint;
      image = x.image;
    }

abbrev pub out_index : AreaIndex → Tables → MadeOut
out_index x t = made_out (made.Index x) t

-- what is left where nothing refuses
unfoldable pub coarsened : AreaIndex → Tables → ℕ → Tables → MadeOut
coarsened x t k u = out_index (numbers_from (coarser k (index_in x t))) (tables_from (coarser k (index_in x t)) u)
