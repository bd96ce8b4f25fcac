-- Where the fields of the header lie.
use Rattle.std.specs.Prelude.{ℕ, ◌+◌, ◌≤◌, ◌<◌, ◌≡◌, List, [], ◌∷◌, length, get_or, take}
use Rattle.rules.specs.File.{Field, field, header_fields}

-- field number i of fields
abbrev pub entry : List Field → ℕ → Field
entry fs i = get_or fs i (field 0 0)

-- the bytes of fields in all
abbrev pub total : List Field → ℕ
total [] = 0
total (f ∷ fs) = f.width + total fs

-- offset and width of field number i of fs, which lie one behind the other from byte at up to byte 80
pub record Placed (fs : List Field) (at i offset width : ℕ) : Type 0 where
  pub place : offset ≡ (entry fs i).offset
  pub size : width ≡ (entry fs i).width
  pub sum : offset ≡ at + total (take i fs)
  pub within : offset + width ≤ 80
  pub single : (width ≡ 8 → ⊥) → (width ≡ 4 → ⊥) → width ≡ 1

-- the bytes b hold a header, and its field number i has w bytes
pub record HoldsField (b : List ℕ) (i w : ℕ) : Type 0 where
  pub long : 80 ≤ length b
  pub below : i < 19
  pub wide : (entry header_fields i).width ≡ w
