-- Blocks that are heads, and blocks that are none, in one table.
use Rattle.std.specs.Prelude.{ℕ, Bool, true, false, ◌≡◌, List, [], ◌∷◌, map, set, replicate}
use Rattle.blocks.specs.Blocks.{block_of, is_index, is_recorder, is_hint_recorder}

pub record Example : Type 0 where
  pub found : Bool
  pub expected : Bool

-- each example gives what it should
abbrev pub Hold : List Example → Type 0
Hold t = map (λ (e : Example). e.found) t ≡ map (λ (e : Example). e.expected) t

abbrev pub zeros : List ℕ
zeros = replicate 24 0

abbrev pub head : Bool → Example
head b = record { found = b; expected = true }

abbrev pub none : Bool → Example
none b = record { found = b; expected = false }

-- lists: words of 0; 191 bytes; word 11 of 2^32 + 3 and of 2^32 - 1; an interval of 2^32; a slot of 256; the marks of end state, fingerprint and image id; numbers behind a mark of 0
abbrev pub lists : List Example
lists =
    head (is_index (block_of zeros))
    ∷ none (is_index (replicate 191 0))
    ∷ none (is_index (block_of (set zeros 11 4294967299)))
    ∷ head (is_index (block_of (set zeros 11 4294967295)))
    ∷ none (is_index (block_of (set zeros 7 4294967296)))
    ∷ none (is_index (block_of (set zeros 0 256)))
    ∷ head (is_index (block_of (set zeros 8 18446744073709551615)))
    ∷ head (is_index (block_of (set zeros 17 1)))
    ∷ none (is_index (block_of (set zeros 17 2)))
    ∷ none (is_index (block_of (set zeros 18 1)))
    ∷ head (is_index (block_of (set (set zeros 17 1) 18 1)))
    ∷ head (is_index (block_of (set zeros 20 2)))
    ∷ none (is_index (block_of (set zeros 20 3)))
    ∷ none (is_index (block_of (set zeros 21 1)))
    ∷ none (is_index (block_of (set zeros 22 2)))
    ∷ none (is_index (block_of (set zeros 23 1)))
    ∷ []

-- recorders: the mark, and words behind the last one; hint recorders: the marks, free words, and words behind them
abbrev pub recorders : List Example
recorders =
    head (is_recorder (block_of (set zeros 14 2)))
    ∷ none (is_recorder (block_of (set zeros 14 3)))
    ∷ none (is_recorder (block_of (set (set zeros 14 2) 15 1)))
    ∷ none (is_recorder (block_of (set zeros 17 1)))
    ∷ head (is_hint_recorder (block_of (set zeros 3 1)))
    ∷ none (is_hint_recorder (block_of (set zeros 3 2)))
    ∷ none (is_hint_recorder (block_of (set zeros 2 1)))
    ∷ none (is_hint_recorder (block_of (set zeros 6 4294967296)))
    ∷ head (is_hint_recorder (block_of (set (set zeros 7 18446744073709551615) 10 1)))
    ∷ none (is_hint_recorder (block_of (set zeros 11 1)))
    ∷ []
