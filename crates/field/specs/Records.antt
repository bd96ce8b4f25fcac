-- How the bytes of a table stand for a list of records.
use Rattle.std.specs.Prelude.{ℕ, zero, suc, ◌*◌, ◌<◌, List, [], ◌∷◌, ◌++◌, take, drop, get_or}

-- the first n records of the bytes t: w bytes each, read by d
unfoldable pub records : {A : Type 0} → ℕ → (List ℕ → A) → ℕ → List ℕ → List A
records w d zero t = []
records w d (suc n) t = d (take w t) ∷ records w d n (drop w t)

-- the bytes of the records xs, written by e
unfoldable pub bytes_of : {A : Type 0} → (A → List ℕ) → List A → List ℕ
bytes_of e [] = []
bytes_of e (x ∷ xs) = e x ++ bytes_of e xs

-- each number is a byte: what a slice of u8 gives of its list
abbrev pub Bytes : List ℕ → Type 0
Bytes t = (i : ℕ) → get_or t i 0 < 256

-- record j of the bytes t
abbrev pub record_at : {A : Type 0} → ℕ → (List ℕ → A) → List ℕ → ℕ → A
record_at w d t j = d (take w (drop (j * w) t))
