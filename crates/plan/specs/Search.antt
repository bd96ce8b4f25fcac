-- What the search of a plan needs, and what it finds.
use Rattle.std.specs.Prelude.{ℕ, zero, suc, ◌≤◌, ◌<◌, List, Option, None, Some}
use Rattle.field.specs.Records.{record_at}
use Rattle.rules.specs.File.{decode_checkpoint}

-- the thresholds of n checkpoints do not fall
pub record Rising (n : ℕ) (t : List ℕ) : Type 0 where
  pub keys : (i k : ℕ) → i ≤ k → k < n → (record_at 24 decode_checkpoint t i).threshold ≤ (record_at 24 decode_checkpoint t
      k).threshold

-- the last of n
unfoldable pub last_in : ℕ → Option ℕ
last_in zero = None
last_in (suc n) = Some n
