-- Passes over a table of records of w bytes.
use Rattle.std.specs.Prelude.{◌≡◌, ℕ, ◌+◌, ◌-◌, ◌*◌, ◌<◌, ◌≤◌, List, ◌∷◌, ◌++◌, length, drop}
use Rattle.field.specs.Records.{records, bytes_of}

-- the records of t from place p to place n
abbrev pub between : {A : Type 0} → ℕ → (List ℕ → A) → ℕ → ℕ → List ℕ → List A
between w d p n t = records w d (n - p) (drop (p * w) t)

-- the table new is old with the r records xs at its start
pub record Begins {A : Type 0} (w : ℕ) (e : A → List ℕ) (xs : List A) (r : ℕ) (old new : List ℕ) : Type 0 where
  pub count : r ≡ length xs
  pub bytes : new ≡ bytes_of e xs ++ drop (r * w) old

-- ---- a merge of the records p to e of the table t and q to n of the table o
-- what is asked of a step: a record is left
pub record Left (w : ℕ) (t o : List ℕ) (e n p q : ℕ) : Type 0 where
  pub own : p ≤ e
  pub other : q ≤ n
  pub some : p + q < e + n
  pub own_there : e * w ≤ length t
  pub other_there : n * w ≤ length o

-- a step takes x, and goes on from p' and q'; the records of t are read by d, those of o by f
pub record Takes {A : Type 0} (w : ℕ) (d f : List ℕ → A) (merge : List A → List A → List A) (t o : List ℕ) (e n p q : ℕ) (x : A) (p' q' : ℕ) : Type 0 where
  pub first : merge (between w d p e t) (between w f q n o) ≡ x ∷ merge (between w d p' e t) (between w f q' n o)
  pub own : (p ≤ p') × (p' ≤ e)
  pub other : (q ≤ q') × (q' ≤ n)
  pub further : p + q < p' + q'

-- what is asked of a merge of the records a to e of t with those from b to n of o, to the start of t: it ends where those of t do, or before
pub record Fits {A : Type 0} (w : ℕ) (d f : List ℕ → A) (merge : List A → List A → List A) (t o : List ℕ) (a e b n : ℕ) : Type 0 where
  pub own : a ≤ e
  pub other : b ≤ n
  pub own_there : e * w ≤ length t
  pub other_there : n * w ≤ length o
  pub most : length (merge (between w d a e t) (between w f b n o)) ≤ e
