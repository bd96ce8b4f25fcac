-- Text in an output.
use Rattle.std.specs.Prelude.{ℕ, ◌+◌, ◌≡◌, cond, List, [], ◌∷◌, ltb, length, set, take}
use Rattle.rules.specs.File.{over}

-- as much of a text as an output has room for
abbrev pub fitting_text : List ℕ → List ℕ → List ℕ
fitting_text out text = take (length out) text

-- n bytes were written over the start of out: the text, as much of it as there is room for
pub record Written (out after : List ℕ) (n : ℕ) (text : List ℕ) : Type 0 where
  pub bytes : after ≡ over (fitting_text out text) out
  pub count : n ≡ length (fitting_text out text)

-- ---- steps: an output and where the next byte goes, which stays at the end once it is there
pub record Output : Type 0 where
  pub bytes : List ℕ
  pub at : ℕ

abbrev pub output : List ℕ → ℕ → Output
output bytes at = record { bytes = bytes; at = at }

unfoldable pub put : Output → ℕ → Output
put o b = cond (ltb o.at (length o.bytes)) (output (set o.bytes o.at b) (o.at + 1)) o

unfoldable pub puts : Output → List ℕ → Output
puts o [] = o
puts o (b ∷ bs) = puts (put o b) bs
