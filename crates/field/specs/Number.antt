-- Numbers in bytes, the lowest byte first.
use Rattle.std.specs.Prelude.{ℕ, zero, suc, ◌+◌, ◌*◌, ◌/◌, ◌%◌, Bool, true, false, ◌&&◌, List, [], ◌∷◌, eqb, take, drop}
use Rattle.std.proofs.lemmas.List.Edits.{sets}

-- v in w bytes
unfoldable pub encode : ℕ → ℕ → List ℕ
encode zero v = []
encode (suc w) v = v % 256 ∷ encode w (v / 256)

-- the number that bytes stand for
unfoldable pub decode : List ℕ → ℕ
decode [] = 0
decode (b ∷ bs) = b + 256 * decode bs

-- the number in the w bytes of t from at on
unfoldable pub number_at : ℕ → List ℕ → ℕ → ℕ
number_at w t at = decode (take w (drop at t))

-- t with v in the w bytes from at on
unfoldable pub put : ℕ → List ℕ → ℕ → ℕ → List ℕ
put w t at v = sets t at (encode w v)

-- are two lists of numbers the same?
unfoldable pub same_bytes : List ℕ → List ℕ → Bool
same_bytes [] [] = true
same_bytes [] (y ∷ ys) = false
same_bytes (x ∷ xs) [] = false
same_bytes (x ∷ xs) (y ∷ ys) = eqb x y && same_bytes xs ys
