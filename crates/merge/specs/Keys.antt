-- Lists in the order of a key, and the keys of a table's records.
use Rattle.std.specs.Prelude.{ℕ, suc, cond, List, [], ◌∷◌, ltb}
use Rattle.field.specs.Number.{number_at}
use Rattle.field.specs.Records.{records}

-- the key of a record: the number in its first four bytes
unfoldable pub key_of : List ℕ → ℕ
key_of b = number_at 4 b 0

-- of n records of w bytes each
abbrev pub keys_in : ℕ → ℕ → List ℕ → List ℕ
keys_in w n t = records w key_of n t

-- how many keys at the start are below low
unfoldable pub below : ℕ → List ℕ → ℕ
below low [] = 0
below low (k ∷ ks) = cond (ltb k low) (suc (below low ks)) 0

-- those of xs from the first on whose key is low or more
unfoldable pub from_key : {A : Type 0} → (A → ℕ) → ℕ → List A → List A
from_key key low [] = []
from_key key low (x ∷ xs) = cond (ltb (key x) low) (from_key key low xs) (x ∷ xs)
