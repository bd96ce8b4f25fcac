-- What the steps of a merge need of the tables, and what they leave.
use Rattle.std.specs.Prelude.{◌≡◌, ℕ, ◌+◌, ◌-◌, ◌*◌, ◌/◌, ◌≤◌, Bool, true, cond, List, [], ◌∷◌, ◌++◌, eqb, length, drop, replicate}
use Rattle.rules.specs.declared.AreaIndex.{AreaIndex}
use Rattle.field.specs.Records.{bytes_of}
use Rattle.rules.specs.declared.Area.{Area}
use Rattle.rules.specs.declared.Hint.{Hint}
use Rattle.rules.specs.declared.Made.TheVariants as made
use Rattle.rules.specs.Tests.{ask, first_no}
use Rattle.rules.specs.Values.{Index, used}
use Rattle.rules.specs.Merge.{question41, question42, question43, merged}
use Rattle.rules.specs.Sections.{hints_ok}
use Rattle.rules.specs.PartRule.{add_parts}
use Rattle.rules.specs.Hints.{joined_hints, unkept}
use Rattle.rules.specs.File.{encode_checkpoint, encode_lsn, over}
use Rattle.tables.specs.Index.{Tables, tables, index_in, numbers_from, tables_cleared, MadeOut, made_out}
use Rattle.index.specs.Steps.{Passes}
use Rattle.tables.specs.Tables.{checkpoints_in, lsns_in, frames_in, parts_in, encode_kept, kept_in}
use Rattle.parts.specs.declared.Counts.{Counts}
use Rattle.parts.specs.Parts.{PartTables, stored_in, Held, held_from}
use Rattle.parts.specs.Steps.{Lent, Room, wanted}
use Rattle.merge.specs.Merge.{hints_written}

-- a list as far as its checkpoints
abbrev pub up_to : AreaIndex → List ℕ → Index
up_to x cs = index_in x (tables cs [] [] [] [] [] [])

unfoldable pub area_agrees : AreaIndex → AreaIndex → Bool
area_agrees x y = question41 (up_to x []) (up_to y [])

unfoldable pub image_agrees : AreaIndex → AreaIndex → Bool
image_agrees x y = question42 (up_to x []) (up_to y [])

unfoldable pub reading_agrees : AreaIndex → List ℕ → AreaIndex → List ℕ → Bool
reading_agrees x cs y ds = question43 (up_to x cs) (up_to y ds)

-- 41 to 43
unfoldable pub join_number : AreaIndex → List ℕ → AreaIndex → List ℕ → ℕ
join_number x cs y ds =
    first_no
    (ask (question41 (up_to x cs) (up_to y ds)) 41 ∷ ask (question42 (up_to x cs) (up_to y ds)) 42 ∷ ask (question43 (up_to x cs) (up_to y ds)) 43 ∷ [])

-- nothing refuses a merge
pub record Joins (x : AreaIndex) (t : Tables) (y : AreaIndex) (u : Tables) : Type 0 where
  pub own : Passes x t
  pub other : Passes y u
  pub area : question41 (index_in x t) (index_in y u) ≡ true
  pub images : question42 (index_in x t) (index_in y u) ≡ true
  pub reading : question43 (index_in x t) (index_in y u) ≡ true

-- the r records xs stand at the start of the table new, which is old past them
pub record Put {A : Type 0} (e : A → List ℕ) (xs : List A) (r : ℕ) (old new : List ℕ) : Type 0 where
  pub count : r ≡ length xs
  pub bytes : new ≡ over (bytes_of e xs) old

-- ---- checkpoints
-- of the m of another table those from number i on, behind the n of t
pub record Appends (n m i : ℕ) (t u : List ℕ) : Type 0 where
  pub own : n * 24 ≤ length t
  pub other : m * 24 ≤ length u
  pub room : (n + (m - i)) * 24 ≤ length t
  pub few : n + (m - i) ≤ 4294967295

abbrev pub Appended : ℕ → ℕ → ℕ → List ℕ → List ℕ → ℕ → List ℕ → Type 0
Appended n m i t u r t' = Put encode_checkpoint (checkpoints_in n t ++ drop i (checkpoints_in m u)) r t t'

-- ---- malformed LSNs
pub record Takes (n m : ℕ) (t u : List ℕ) : Type 0 where
  pub own : n * 4 ≤ length t
  pub other : m * 4 ≤ length u
  pub room : m * 4 ≤ length t

abbrev pub LsnsTaken : Bool → ℕ → ℕ → List ℕ → List ℕ → ℕ → List ℕ → Type 0
LsnsTaken go n m t u r t' = Put encode_lsn (cond go (lsns_in m u) (lsns_in n t)) r t t'

-- ---- frames and parts
-- of another list, f frames and h parts
pub record PartsReady (x : AreaIndex) (f h : ℕ) (t u : PartTables) : Type 0 where
  pub own : x.frames * 8 ≤ length t.frames
  pub lent : Lent f h u
  pub room : (c : Counts) → c.frames ≡ x.frames → c.parts ≡ x.parts → c.used ≡ used (frames_in x.frames t.frames t.store)
      → Room (wanted x.checkpoints (parts_in h u.parts)) x.budget c t

abbrev pub parts_taken : AreaIndex → ℕ → ℕ → PartTables → PartTables → Held
parts_taken x f h t u =
    held_from (add_parts x.budget (frames_in f u.frames u.store) x.checkpoints (parts_in h u.parts) (stored_in x.frames x.parts t)) t

-- ---- hints
pub record HintsReady (a : Area) (n m : ℕ) (t u : List ℕ) : Type 0 where
  pub room : n + m ≤ length t / 8
  pub there : m * 8 ≤ length u
  pub own : hints_ok a (kept_in n t) ≡ true
  pub rising : hints_ok a (kept_in m u) ≡ true

-- a count, and a table
pub record CountedTable : Type 0 where
  pub count : ℕ
  pub table : List ℕ

abbrev pub counted_table : ℕ → List ℕ → CountedTable
counted_table n t = record { count = n; table = t }

-- hints hs at the start of a table, which is cleared behind them up to record number w
abbrev pub cleared_up_to : ℕ → List Hint → List ℕ → CountedTable
cleared_up_to w hs t = counted_table (length hs) (over (bytes_of encode_kept hs ++ replicate ((w - length hs) * 8) 0) t)

abbrev pub written_to : ℕ → ℕ → ℕ → ℕ
written_to most n m = cond (eqb most 0) n (n + m)

unfoldable pub hints_joined : Area → ℕ → ℕ → ℕ → List ℕ → List ℕ → CountedTable
hints_joined a most n m t u = cleared_up_to (written_to most n m) (joined_hints a most (kept_in n t) (unkept (kept_in m u))) t

abbrev pub out_index : AreaIndex → Tables → MadeOut
out_index x t = made_out (made.Index x) t

unfoldable pub merged_in : AreaIndex → Tables → AreaIndex → Tables → MadeOut
merged_in x t y u =
    out_index (numbers_from (merged (index_in x t) (index_in y u))) (tables_cleared (hints_written x y) (merged (index_in x t) (index_in y u)) t)
