-- Change request 2: the row of a file, the totals, and the sheet.
use Rattle.std.specs.Prelude.{ℕ, zero, suc, ◌+◌, ◌*◌, ◌/◌, ◌%◌, Bool, cond, List, [], ◌∷◌, ◌++◌, map, eqb, leb, ltb, length, Option, None, Some}
use Rattle.field.specs.Records.{bytes_of}
use Rattle.rules.specs.declared.Area.{Area}
use Rattle.rules.specs.declared.AreaKey.{AreaKey}
use Rattle.rules.specs.Tests.{all, Answer, Refused, Accepted, after, ask, bind, first_no}
use Rattle.rules.specs.Values.{Index, max32, boundaries, used}
use Rattle.rules.specs.File.{read_header}
use Rattle.rules.specs.Load.{body_in, key_of, from_bytes}
use Rattle.rules_coverage.specs.declared.Row.{Row}
use Rattle.rules_coverage.specs.Lines.{Line, line_of, lines_read}

-- ---- the row of a file
abbrev pub row : ℕ → ℕ → ℕ → Row
row n b h = record { checkpoints = n; boundaries = b; held = h }

-- "the area taken from the file itself with that range": its header's five numbers, and the line's range
abbrev pub key_in : List ℕ → AreaKey
key_in b = key_of (read_header (body_in b))

abbrev pub area_in : List ℕ → ℕ → ℕ → Area
area_in b s e = record { key = key_in b; start = s; end = e }

-- "question 1 on the range only"
unfoldable pub range_ok : ℕ → ℕ → Bool
range_ok s e = all (leb s e ∷ leb e max32 ∷ [])

-- "Held bytes are all frame bytes in the file."
unfoldable pub row_from : Index → Row
row_from x = row (length x.scan.checkpoints) (boundaries x.scan.area x.scan.interval) (used x.scan.frames)

-- 1, then 20 to 38; no index is built, so 3 is not asked
unfoldable pub row_of : List ℕ → ℕ → ℕ → Answer Row
row_of b s e = after (first_no (ask (range_ok s e) 1 ∷ [])) (bind (from_bytes (area_in b s e) b) (λ x. Accepted (row_from x)))

-- ---- the row of a line
abbrev pub max_file : ℕ
max_file = 65536

-- "45 when a file cannot be read whole or exceeds 65,536 bytes, asked before loading"; none is a file that cannot be read
unfoldable pub file_row : Option (List ℕ) → ℕ → ℕ → Answer Row
file_row None s e = Refused 45
file_row (Some b) s e = after (first_no (ask (leb (length b) max_file) 45 ∷ [])) (row_of b s e)

-- "46 when a line has another shape, asked before 45"; f is the file that it names
unfoldable pub line_row : Option Line → Option (List ℕ) → Answer Row
line_row None f = Refused 46
line_row (Some l) f = file_row f l.start l.end

-- ---- coverage and totals
-- "in ten-thousandths, rounded down; no boundaries give 10000"
unfoldable pub coverage : Row → ℕ
coverage r = cond (eqb r.boundaries 0) 10000 (r.checkpoints * 10000 / r.boundaries)

unfoldable pub plus : Row → Row → Row
plus r s = row (r.checkpoints + s.checkpoints) (r.boundaries + s.boundaries) (r.held + s.held)

-- sums over the accepted ones
unfoldable pub totals : List (Answer Row) → Row
totals [] = row 0 0 0
totals (Refused n ∷ rs) = totals rs
totals (Accepted r ∷ rs) = plus r (totals rs)

-- ---- text
-- the decimal digits of v, the last n where it has more
unfoldable pub digits : ℕ → ℕ → List ℕ
digits zero v = []
digits (suc n) v = cond (ltb v 10) ((48 + v) ∷ []) (digits n (v / 10) ++ ((48 + v % 10) ∷ []))

-- a number of 64 bits has at most 20
unfoldable pub decimal_text : ℕ → List ℕ
decimal_text v = digits 20 v

-- a space and a number
unfoldable pub number_text : ℕ → List ℕ
number_text v = 32 ∷ decimal_text v

-- a space and "refused"
abbrev pub refused_text : List ℕ
refused_text = 32 ∷ 114 ∷ 101 ∷ 102 ∷ 117 ∷ 115 ∷ 101 ∷ 100 ∷ []

abbrev pub newline : List ℕ
newline = 10 ∷ []

unfoldable pub answer_text : Answer Row → List ℕ
answer_text (Refused n) = refused_text ++ (number_text n ++ newline)
answer_text (Accepted r) =
    number_text r.checkpoints
    ++ (number_text r.boundaries ++ (number_text r.held ++ (number_text (coverage r) ++ newline)))

-- "name, checkpoints, boundaries, held bytes and coverage", or "its name, the word refused and the number"
unfoldable pub row_text : List ℕ → Answer Row → List ℕ
row_text name a = name ++ answer_text a

-- "its name is then printed as a dash"
unfoldable pub name_of : Option Line → List ℕ
name_of None = 45 ∷ []
name_of (Some l) = l.name

-- "total"
abbrev pub total_name : List ℕ
total_name = 116 ∷ 111 ∷ 116 ∷ 97 ∷ 108 ∷ []

unfoldable pub total_text : Row → List ℕ
total_text r = row_text total_name (Accepted r)

-- ---- the sheet; files tells the bytes of a file by its name, none where it cannot be read
module _ (files : List ℕ → Option (List ℕ)) where
  -- the file that a line names
  unfoldable pub file_of : Option Line → Option (List ℕ)
  file_of None = None
  file_of (Some l) = files l.name

  abbrev pub answer_of : List ℕ → Answer Row
  answer_of s = line_row (line_of s) (file_of (line_of s))

  abbrev pub line_text : List ℕ → List ℕ
  line_text s = row_text (name_of (line_of s)) (answer_of s)

  -- what is printed for the bytes of standard input
  unfoldable pub sheet : List ℕ → List ℕ
  sheet input = bytes_of line_text (lines_read input) ++ total_text (totals (map answer_of (lines_read input)))
