-- Change request 1 over the tables that players hold.
use Rattle.std.specs.Prelude.{ℕ, ◌<◌, ◌≤◌, ◌≡◌, ◌≢◌, true, List, ◌∷◌, map, eqb, length, get_or}
use Rattle.field.specs.Records.{Bytes, bytes_of}
use Rattle.rules.specs.declared.AreaIndex.{AreaIndex}
use Rattle.rules.specs.Tests.{agree, Refused}
use Rattle.rules.specs.Values.{Index, Lengths, stated}
use Rattle.rules.specs.Questions.{question3}
use Rattle.rules.specs.File.{saved}
use Rattle.rules.specs.Load.{limited}
use Rattle.rules.specs.Run.{Reading, Cut}
use Rattle.rules_drawer.specs.Drawer.{max_files, lengths_in, merge_all}
use Rattle.rules.specs.declared.Made.TheVariants as made
use Rattle.tables.specs.Index.{Tables, room_of, index_in, kinds_in, numbers_from, refusal, made_out}
use Rattle.drawer.specs.Drawer.{merge_all_in}
use Rattle.theorems.specs.Terms.{Valid, ValidIn}
use Rattle.theorems.specs.TableRun.{LentIn}
use Rattle.theorems.specs.Drawer.{InTurn, Gathers}

-- numbers y and tables t' hold the list that an accepted set leaves: that of merging in turn
pub record SetLeft (x : AreaIndex) (t : Tables) (ls b : List ℕ) (limit : ℕ) (u : Tables) (y : AreaIndex)
    (t' : Tables) : Type 0 where
  pub own : ValidIn x t
  pub turns : InTurn (room_of t) (index_in x t) (room_of u) (lengths_in ls) b limit (index_in y t')
  pub valid : ValidIn y t'
  pub room : room_of t' ≡ room_of t

-- the call answers the numbers of the list z, which its tables then hold
pub record SetAnswers (x : AreaIndex) (t : Tables) (ls b : List ℕ) (limit : ℕ) (u : Tables) (z : Index) : Type 0 where
  pub after : Tables
  pub answer : merge_all_in x t ls b limit u ≡ made_out (made.Index (numbers_from z)) after
  pub stands : index_in (numbers_from z) after ≡ z

pub record SetInTables : Type 0 where
  -- what every accepted call leaves
  pub leaves : (x : AreaIndex) (t : Tables) (ls b : List ℕ) (limit : ℕ) (u : Tables) (y : AreaIndex) (t' : Tables)
      → LentIn x t → Bytes b
      → merge_all_in x t ls b limit u ≡ made_out (made.Index y) t' → SetLeft x t ls b limit u y t'
  -- a set whose files load and whose merging in turn is accepted throughout is accepted
  pub accepts : (x : AreaIndex) (t : Tables) (ls b : List ℕ) (limit : ℕ) (u : Tables) (z : Index) → LentIn x t
      → Bytes b → kinds_in x t ≡ true
      → InTurn (room_of t) (index_in x t) (room_of u) (lengths_in ls) b limit z → SetAnswers x t ls b limit u z
  -- the number of a refusal: of 1 to 4 with the kind bytes, else that of the rules; no table changes
  pub own : (x : AreaIndex) (t : Tables) (ls b : List ℕ) (limit : ℕ) (u : Tables) (n : ℕ) → refusal x t ≡ n → n ≢ 0
      → merge_all_in x t ls b limit u ≡ made_out (made.Refused n) t
  pub refused : (x : AreaIndex) (t : Tables) (ls b : List ℕ) (limit : ℕ) (u : Tables) (n : ℕ) → refusal x t ≡ 0
      → merge_all (room_of t) (index_in x t) (room_of u) (lengths_in ls) b limit ≡ Refused n → merge_all_in x t ls b limit u
      ≡ made_out (made.Refused n) t

-- ---- files that saving wrote
-- an own list and 1 to 16 lists, all cut from one reading, of which no two fingerprints differ as they load: their files, in working tables long enough for each, are not refused
abbrev pub SetOfSaved : Type 0
SetOfSaved =
    (R : Reading) (l m : Lengths) (x : Index) (zs : List Index) (limit : ℕ) → Valid l x → 1 ≤ length zs
    → length zs ≤ max_files → Cut R x
    → ((i : ℕ) → i < length zs → Cut R (get_or zs i x) × (question3 m (limited limit (get_or zs i x)) ≡ true))
    → ((i j : ℕ) → i < j → j < length (x ∷ map (limited limit) zs)
    → agree eqb (stated (get_or (x ∷ map (limited limit) zs) i x).fingerprint)
    (stated (get_or (x ∷ map (limited limit) zs) j x).fingerprint) ≡ true)
    → Gathers R x (map (limited limit) zs) (merge_all l x m (map (λ z. length (saved z)) zs) (bytes_of saved zs) limit)
