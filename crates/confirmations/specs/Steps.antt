-- What the steps of keeping confirmations find and leave in the tables.
use Rattle.std.specs.Prelude.{ℕ, ◌*◌, ◌≤◌, zero, suc, List, length, ◌≡◌}
use Rattle.rules.specs.declared.AreaIndex.{AreaIndex}
use Rattle.field.specs.Records.{record_at}
use Rattle.rules.specs.declared.Confirmation.{Confirmation}
use Rattle.rules.specs.Sections.{confirmed_lsn}
use Rattle.rules.specs.File.{decode_confirmation, encode_confirmation}
use Rattle.rules.specs.Hints.{held_confirmation, last_ones}
use Rattle.laws.specs.Order.{Rises}
use Rattle.tables.specs.Tables.{confirmations_in}
use Rattle.add_hints.specs.Steps.{with_counts}
use Rattle.laws.specs.Merging.{merged_with}
use Rattle.laws.specs.Passes.{between, Begins}

-- n confirmations in the order of the LSN, at most M, in a table that has space for M
pub record Room (most n : ℕ) (t : List ℕ) : Type 0 where
  pub few : n ≤ most
  pub room : most * 16 ≤ length t
  pub rises : Rises confirmed_lsn 0 (confirmations_in n t)

-- x with another number of confirmations
abbrev pub with_count : AreaIndex → ℕ → AreaIndex
with_count x n = with_counts x x.hints n

-- two lists merged; two confirmations at one LSN meet
abbrev pub confirmations_merged : List Confirmation → List Confirmation → List Confirmation
confirmations_merged own other = merged_with confirmed_lsn held_confirmation own other

-- the LSN of the last of the first i, plus 1; 0 where i is 0
unfoldable pub last_lsn : List ℕ → ℕ → ℕ
last_lsn t zero = 0
last_lsn t (suc i) = suc (record_at 16 decode_confirmation t i).lsn

-- what is asked of both tables: at most M own confirmations, room for M, and both lists in the order of the LSN
pub record Rising (most c d : ℕ) (t o : List ℕ) : Type 0 where
  pub few : c ≤ most
  pub room : most * 16 ≤ length t
  pub there : d * 16 ≤ length o
  pub own : Rises confirmed_lsn 0 (confirmations_in c t)
  pub other : Rises confirmed_lsn 0 (confirmations_in d o)

-- the last M of both lists merged are those from i on merged with those from j on, k of them
pub record Splits (most c d : ℕ) (t o : List ℕ) (i j k : ℕ) : Type 0 where
  pub own : i ≤ c
  pub other : j ≤ d
  pub few : k ≤ most
  pub more : c ≤ k
  pub last : last_ones most (confirmations_merged (confirmations_in c t) (confirmations_in d o))
      ≡ confirmations_merged (between 16 decode_confirmation i c t) (between 16 decode_confirmation j d o)
  pub count : k ≡ length (confirmations_merged (between 16 decode_confirmation i c t)
      (between 16 decode_confirmation j d o))

-- the last M of both lists merged stand at the start of the table new
pub record Keeps (most c d : ℕ) (o : List ℕ) (r : ℕ) (old new : List ℕ) : Type 0 where
  pub begins : Begins 16 encode_confirmation
      (last_ones most (confirmations_merged (confirmations_in c old) (confirmations_in d o))) r old new
  pub few : r ≤ most
