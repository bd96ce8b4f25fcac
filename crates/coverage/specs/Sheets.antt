-- What the table holds of the lines that were read.
use Rattle.std.specs.Prelude.{ℕ, ◌+◌, ◌≡◌, List, [], ◌∷◌, ◌++◌, take, Option}
use Rattle.rules.specs.Tests.{Answer}
use Rattle.rules_coverage.specs.declared.Row.{Row}
use Rattle.rules_coverage.specs.Lines.{most_lines, line_of}
use Rattle.rules_coverage.specs.Coverage.{line_row, name_of, row_text}
use Rattle.sheet.specs.Rows.{rows_in}
use Rattle.rules.specs.File.{over}
use Rattle.sheet.specs.Text.{fitting_text}

-- a is the row of the line s, for what was read of the file that it names
pub record RowOfLine (s : List ℕ) (a : Answer Row) : Type 0 where
  pub file : Option (List ℕ)
  pub is : a ≡ line_row (line_of s) file

-- the row of the line s is behind the first n rows of a table, and its text in an output
pub record Answered (n : ℕ) (s before after outBefore outAfter : List ℕ) : Type 0 where
  pub answer : Answer Row
  pub of_line : RowOfLine s answer
  pub rows : rows_in (n + 1) after ≡ take most_lines (rows_in n before ++ (answer ∷ []))
  pub text : outAfter ≡ over (fitting_text outBefore (row_text (name_of (line_of s)) answer)) outBefore

-- each is the row of a line
pub data OfLines : List (Answer Row) → Type 0 where
  nothing : OfLines []
  further : {rs : List (Answer Row)} {a : Answer Row} {s : List ℕ} → OfLines rs → RowOfLine s a → OfLines (rs ++ (a ∷ []))

-- the first n rows of a table are those of lines
abbrev pub Rows : ℕ → List ℕ → Type 0
Rows n table = OfLines (rows_in n table)
