-- Records made of numbers, one after another.
use Rattle.std.specs.Prelude.{ℕ, ◌+◌, ◌^◌, ◌<◌, List, [], ◌∷◌, ◌++◌, get_or, drop}
use Rattle.field.specs.Number.{encode, number_at, put}

-- the bytes of fields of widths ws in all
abbrev pub widths : List ℕ → ℕ
widths [] = 0
widths (w ∷ ws) = w + widths ws

-- the numbers in the fields of t from i on
abbrev pub fields_at : List ℕ → List ℕ → ℕ → List ℕ
fields_at [] t i = []
fields_at (w ∷ ws) t i = number_at w t i ∷ fields_at ws t (i + w)

-- the bytes of the fields vs
abbrev pub field_bytes : List ℕ → List ℕ → List ℕ
field_bytes [] vs = []
field_bytes (w ∷ ws) vs = encode w (get_or vs 0 0) ++ field_bytes ws (drop 1 vs)

-- each number fits its field
abbrev pub FieldsFit : List ℕ → List ℕ → Type 0
FieldsFit [] [] = Unit {0}
FieldsFit [] (v ∷ vs) = ⊥
FieldsFit (w ∷ ws) [] = ⊥
FieldsFit (w ∷ ws) (v ∷ vs) = (v < 256 ^ w) × FieldsFit ws vs

-- t with vs in the fields of the record at k, from its byte i on
abbrev pub put_fields : List ℕ → List ℕ → ℕ → ℕ → List ℕ → List ℕ
put_fields [] t k i vs = t
put_fields (w ∷ ws) t k i vs = put_fields ws (put w t (k + i) (get_or vs 0 0)) k (i + w) (drop 1 vs)
