-- Change request 2: the lines of the input, and what a line says.
use Rattle.std.specs.Prelude.{ℕ, ◌+◌, ◌-◌, ◌*◌, Bool, ◌&&◌, not, cond, List, [], ◌∷◌, eqb, leb, length, get_or, take, Option, None, Some}
use Rattle.rules.specs.Tests.{all, each}

-- ---- lines
-- b before the first of ls, or in a new one where there is none
unfoldable pub on_first : ℕ → List (List ℕ) → List (List ℕ)
on_first b [] = (b ∷ []) ∷ []
on_first b (l ∷ ls) = (b ∷ l) ∷ ls

-- a newline ends a line; the last may lack it, and behind a last newline no line begins
unfoldable pub lines_of : List ℕ → List (List ℕ)
lines_of [] = []
lines_of (b ∷ bs) = cond (eqb b 10) ([] ∷ lines_of bs) (on_first b (lines_of bs))

-- "at most 1,000 lines from standard input and ignores the rest"
abbrev pub most_lines : ℕ
most_lines = 1000

unfoldable pub lines_read : List ℕ → List (List ℕ)
lines_read b = take most_lines (lines_of b)

-- ---- a line: a name, start and end
pub record Line : Type 0 where
  pub name : List ℕ
  pub start : ℕ
  pub end : ℕ

-- the words between single spaces: n spaces make n + 1 words
unfoldable pub words_of : List ℕ → List (List ℕ)
words_of [] = [] ∷ []
words_of (b ∷ bs) = cond (eqb b 32) ([] ∷ words_of bs) (on_first b (words_of bs))

unfoldable pub between : ℕ → ℕ → ℕ → Bool
between a e n = leb a n && leb n e

abbrev pub not_zero : ℕ → Bool
not_zero b = not (eqb b 0)

-- "1 to 255 bytes without space or zero byte"; a word has no space
unfoldable pub is_name : List ℕ → Bool
is_name w = between 1 255 (length w) && each not_zero w

abbrev pub is_digit : ℕ → Bool
is_digit b = between 48 57 b

-- "one to ten decimal digits"
unfoldable pub is_number : List ℕ → Bool
is_number w = between 1 10 (length w) && each is_digit w

-- the number whose digits so far give v and then are these
unfoldable pub value_from : ℕ → List ℕ → ℕ
value_from v [] = v
value_from v (b ∷ bs) = value_from (v * 10 + (b - 48)) bs

-- a word by its number, none where there are fewer
abbrev pub word : List (List ℕ) → ℕ → List ℕ
word ws i = get_or ws i []

-- three words: a name and two numbers; another shape is 46
unfoldable pub line_from : List (List ℕ) → Option Line
line_from ws =
    cond (all (eqb (length ws) 3 ∷ is_name (word ws 0) ∷ is_number (word ws 1) ∷ is_number (word ws 2) ∷ []))
    (Some (record { name = word ws 0; start = value_from 0 (word ws 1); end = value_from 0 (word ws 2) })) None

unfoldable pub line_of : List ℕ → Option Line
line_of s = line_from (words_of s)
