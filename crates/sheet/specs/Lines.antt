-- What parsing a line answers.
use Rattle.std.specs.Prelude.{ℕ, suc, cond, ◌&&◌, List, [], ◌∷◌, eqb, length, take, Option, None, Some}
use Rattle.rules_coverage.specs.Lines.{Line, is_name, is_number, value_from}
use Rattle.sheet.specs.declared.line.Parsed.{Parsed}
use Rattle.sheet.specs.declared.line.Parsed.TheVariants as parsed
use Rattle.sheet.specs.declared.line.Number.{Number}
use Rattle.sheet.specs.declared.line.Number.TheVariants.{Nothing, Value}

-- the line that was parsed in the bytes s
unfoldable pub line_in : List ℕ → Parsed → Option Line
line_in s parsed.Broken = None
line_in s (parsed.Line k a e) = Some (record { name = take k s; start = a; end = e })

unfoldable pub name_length : Parsed → ℕ
name_length parsed.Broken = 0
name_length (parsed.Line k a e) = k

-- ---- steps
-- the bytes before the first space
unfoldable pub word_length : List ℕ → ℕ
word_length [] = 0
word_length (b ∷ bs) = cond (eqb b 32) 0 (suc (word_length bs))

unfoldable pub number_of : List ℕ → Number
number_of w = cond (is_number w) (Value (value_from 0 w)) Nothing

unfoldable pub parsed_from : List ℕ → List ℕ → List ℕ → Parsed
parsed_from name a e =
    cond (is_name name && (is_number a && is_number e)) (parsed.Line (length name) (value_from 0 a) (value_from 0 e)) parsed.Broken
