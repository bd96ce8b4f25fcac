-- Examples of change request 2: each shape of a line, rows, and sheets.
use Rattle.std.specs.Prelude.{ℕ, cond, List, [], ◌∷◌, ◌++◌, map, length, set, take, replicate, Option, None, Some}
use Rattle.field.specs.Number.{encode, same_bytes}
use Rattle.fnv.specs.Fnv.{fnv64}
use Rattle.rules.specs.declared.Fingerprint.TheVariants.{Unknown}
use Rattle.rules.specs.Tests.{number_of, Refused, Accepted}
use Rattle.rules.specs.Values.{Index}
use Rattle.rules.specs.File.{body_of, saved}
use Rattle.rules.specs.examples.Starred.{area, checkpoint, index_of, three, holding, numbers_of, Example, example}
use Rattle.rules_coverage.specs.declared.Row.{Row}
use Rattle.rules_coverage.specs.Lines.{Line, lines_of, lines_read, line_of}
use Rattle.rules_coverage.specs.Coverage.{row, row_of, file_row, line_row, coverage, totals, decimal_text, sheet}

-- ---- values
-- two checkpoints of three
abbrev pub two : Index
two = index_of (area 1000 1250) 100 (checkpoint 0 0 0 ∷ checkpoint 0 0 0 ∷ []) None Unknown 2048 [] []

-- no checkpoint, at interval k
abbrev pub bare : ℕ → Index
bare k = index_of (area 1000 1250) k [] None Unknown 2048 [] []

-- the file of two with another byte at a place of its header, and the sum of that
abbrev pub mended : List ℕ → List ℕ
mended b = b ++ encode 8 (fnv64 b)

abbrev pub with_byte : ℕ → ℕ → List ℕ
with_byte i v = mended (set (body_of two) i v)

-- a.sbx is the file of two, b.sbx that of three; there are no others
unfoldable pub folder : List ℕ → Option (List ℕ)
folder name =
    cond (same_bytes name (97 ∷ 46 ∷ 115 ∷ 98 ∷ 120 ∷ [])) (Some (saved two))
    (cond (same_bytes name (98 ∷ 46 ∷ 115 ∷ 98 ∷ 120 ∷ [])) (Some (saved three)) None)

-- ---- answers as numbers
-- 46, or 0, start, end and the name
unfoldable pub line_numbers : Option Line → List ℕ
line_numbers None = 46 ∷ []
line_numbers (Some l) = 0 ∷ l.start ∷ l.end ∷ l.name

abbrev pub said : List ℕ → List ℕ
said s = line_numbers (line_of s)

unfoldable pub row_numbers : Row → List ℕ
row_numbers r = r.checkpoints ∷ r.boundaries ∷ r.held ∷ coverage r ∷ []

abbrev pub rowed : List ℕ → ℕ → ℕ → List ℕ
rowed b s e = numbers_of row_numbers (row_of b s e)

-- ---- lines
unfoldable pub lines : List Example
lines =
    -- "a 1 2\nb", "\n", "a\n" and "\n\na": the lengths of the lines
    example (map (λ l. length l) (lines_of (97 ∷ 32 ∷ 49 ∷ 32 ∷ 50 ∷ 10 ∷ 98 ∷ [])) ++ (map (λ l. length l) (lines_of (10 ∷ [])) ++ (map (λ l. length l) (lines_of (97 ∷ 10 ∷ [])) ++ map (λ l. length l) (lines_of (10 ∷ 10 ∷ 97 ∷ []))))) (5 ∷ 1 ∷ 0 ∷ 1 ∷ 0 ∷ 0 ∷ 1 ∷ [])
    -- no input has no line; of 1,001 lines the last is ignored
    ∷ example (length (lines_of []) ∷ length (lines_read (replicate 1001 10)) ∷ length (lines_of (replicate 1001 10)) ∷ []) (0 ∷ 1000 ∷ 1001 ∷ [])
    -- "a 1 20"
    ∷ example (said (97 ∷ 32 ∷ 49 ∷ 32 ∷ 50 ∷ 48 ∷ [])) (0 ∷ 1 ∷ 20 ∷ 97 ∷ [])
    -- leading zeros; the largest number: "a.sbx 0000000007 9999999999"
    ∷ example (said (97 ∷ 46 ∷ 115 ∷ 98 ∷ 120 ∷ 32 ∷ 48 ∷ 48 ∷ 48 ∷ 48 ∷ 48 ∷ 48 ∷ 48 ∷ 48 ∷ 48 ∷ 55 ∷ 32 ∷ 57 ∷ 57 ∷ 57 ∷ 57 ∷ 57 ∷ 57 ∷ 57 ∷ 57 ∷ 57 ∷ 57 ∷ [])) (0 ∷ 7 ∷ 9999999999 ∷ 97 ∷ 46 ∷ 115 ∷ 98 ∷ 120 ∷ [])
    -- a tab, a carriage return and a byte above 127 in the name
    ∷ example (said (9 ∷ 13 ∷ 200 ∷ 32 ∷ 48 ∷ 32 ∷ 48 ∷ [])) (0 ∷ 0 ∷ 0 ∷ 9 ∷ 13 ∷ 200 ∷ [])
    -- names of 255 and 256 bytes
    ∷ example (take 3 (said (replicate 255 97 ++ (32 ∷ 49 ∷ 32 ∷ 50 ∷ []))) ++ said (replicate 256 97 ++ (32 ∷ 49 ∷ 32 ∷ 50 ∷ []))) (0 ∷ 1 ∷ 2 ∷ 46 ∷ [])
    -- 46: "", "a", "a 1", "a 1 2 3"
    ∷ example (said [] ++ (said (97 ∷ []) ++ (said (97 ∷ 32 ∷ 49 ∷ []) ++ (said (97 ∷ 32 ∷ 49 ∷ 32 ∷ 50 ∷ 32 ∷ 51 ∷ []))))) (46 ∷ 46 ∷ 46 ∷ 46 ∷ [])
    -- 46: "a  1 2", "a 1  2", " 1 2", " a 1 2", "a 1 2 ", "a 1 "
    ∷ example (said (97 ∷ 32 ∷ 32 ∷ 49 ∷ 32 ∷ 50 ∷ []) ++ (said (97 ∷ 32 ∷ 49 ∷ 32 ∷ 32 ∷ 50 ∷ []) ++ (said (32 ∷ 49 ∷ 32 ∷ 50 ∷ []) ++ (said (32 ∷ 97 ∷ 32 ∷ 49 ∷ 32 ∷ 50 ∷ []) ++ (said (97 ∷ 32 ∷ 49 ∷ 32 ∷ 50 ∷ 32 ∷ []) ++ (said (97 ∷ 32 ∷ 49 ∷ 32 ∷ []))))))) (46 ∷ 46 ∷ 46 ∷ 46 ∷ 46 ∷ 46 ∷ [])
    -- 46: "a 1 2\r", "a +1 2", "a 1 -2", "a 1x 2", "a / 2", "a 1 :"
    ∷ example (said (97 ∷ 32 ∷ 49 ∷ 32 ∷ 50 ∷ 13 ∷ []) ++ (said (97 ∷ 32 ∷ 43 ∷ 49 ∷ 32 ∷ 50 ∷ []) ++ (said (97 ∷ 32 ∷ 49 ∷ 32 ∷ 45 ∷ 50 ∷ []) ++ (said (97 ∷ 32 ∷ 49 ∷ 120 ∷ 32 ∷ 50 ∷ []) ++ (said (97 ∷ 32 ∷ 47 ∷ 32 ∷ 50 ∷ []) ++ (said (97 ∷ 32 ∷ 49 ∷ 32 ∷ 58 ∷ []))))))) (46 ∷ 46 ∷ 46 ∷ 46 ∷ 46 ∷ 46 ∷ [])
    -- 46: eleven digits of start and of end, a zero byte in the name
    ∷ example (said (97 ∷ 32 ∷ 49 ∷ 50 ∷ 51 ∷ 52 ∷ 53 ∷ 54 ∷ 55 ∷ 56 ∷ 57 ∷ 48 ∷ 49 ∷ 32 ∷ 50 ∷ []) ++ (said (97 ∷ 32 ∷ 49 ∷ 32 ∷ 48 ∷ 48 ∷ 48 ∷ 48 ∷ 48 ∷ 48 ∷ 48 ∷ 48 ∷ 48 ∷ 48 ∷ 49 ∷ []) ++ (said (97 ∷ 0 ∷ 32 ∷ 49 ∷ 32 ∷ 50 ∷ [])))) (46 ∷ 46 ∷ 46 ∷ []) ∷ []

-- ---- rows: the number, then checkpoints, boundaries, held bytes and coverage
unfoldable pub rows : List Example
rows =
    -- the request's two files
    example (rowed (saved two) 1000 1250 ++ rowed (saved three) 1000 1250) (0 ∷ 2 ∷ 3 ∷ 0 ∷ 6666 ∷ 0 ∷ 3 ∷ 3 ∷ 0 ∷ 10000 ∷ [])
    -- the line's range counts, not the header's
    ∷ example (rowed (saved two) 0 1000 ++ rowed (saved two) 7 7) (0 ∷ 2 ∷ 10 ∷ 0 ∷ 2000 ∷ 30 ∷ [])
    -- held bytes are those of the frames: a part of three bytes in a frame of four
    ∷ example (rowed (saved (holding 33)) 1000 1250) (0 ∷ 2 ∷ 3 ∷ 4 ∷ 6666 ∷ [])
    -- no boundaries; as many as there can be
    ∷ example (rowed (saved (bare 100)) 1000 1000 ++ rowed (saved (bare 1)) 0 4294967295) (0 ∷ 0 ∷ 0 ∷ 0 ∷ 10000 ∷ 0 ∷ 0 ∷ 4294967295 ∷ 0 ∷ 0 ∷ [])
    -- 1: a range upside down, and an end above 4,294,967,295; before 20
    ∷ example (rowed (saved two) 1250 1249 ++ (rowed (saved two) 0 4294967296 ++ rowed [] 1 0)) (1 ∷ 1 ∷ 1 ∷ [])
    -- 20 to 22
    ∷ example (rowed [] 0 0 ++ (rowed (replicate 7 0) 0 0 ++ (rowed (replicate 8 0) 0 0 ++ rowed (set (saved two) 36 0) 1000 1250))) (20 ∷ 20 ∷ 21 ∷ 22 ∷ [])
    -- a slot above 1 is 24 in its turn, behind 23
    ∷ example (rowed (with_byte 12 2) 1000 1250 ++ rowed (mended (set (set (body_of two) 12 2) 8 0)) 1000 1250) (24 ∷ 23 ∷ [])
    -- whatever key the header has, it is the area's: slot 1, channels 9, another start and end
    ∷ example (number_of (row_of (with_byte 12 1) 1000 1250) ∷ number_of (row_of (with_byte 13 9) 1000 1250) ∷ number_of (row_of (with_byte 16 0) 1000 1250) ∷ number_of (row_of (with_byte 20 0) 1000 1250) ∷ []) (0 ∷ 0 ∷ 0 ∷ 0 ∷ [])
    -- 30: more checkpoints than the line's range has boundaries
    ∷ example (rowed (saved three) 1000 1200) (30 ∷ [])
    -- 45, before 1; 65,536 bytes are not too many
    ∷ example (number_of (file_row None 1 0) ∷ number_of (file_row (Some (replicate 65537 0)) 0 0) ∷ number_of (file_row (Some (replicate 65536 0)) 0 0) ∷ []) (45 ∷ 45 ∷ 21 ∷ [])
    -- 46, before 45
    ∷ example (number_of (line_row None None) ∷ number_of (line_row None (Some (saved two))) ∷ []) (46 ∷ 46 ∷ [])
    -- refused rows add nothing; the coverage of the sums
    ∷ example (row_numbers (totals (Accepted (row 2 3 7) ∷ Refused 22 ∷ Accepted (row 3 3 1) ∷ [])) ++ row_numbers (totals (Refused 45 ∷ []))) (5 ∷ 6 ∷ 8 ∷ 8333 ∷ 0 ∷ 0 ∷ 0 ∷ 10000 ∷ []) ∷ []

-- ---- sheets
unfoldable pub sheets : List Example
sheets =
    -- 0, 10 and the largest number of 64 bits
    example (decimal_text 0 ++ (decimal_text 10 ++ decimal_text 18446744073709551615)) (48 ∷ 49 ∷ 48 ∷ 49 ∷ 56 ∷ 52 ∷ 52 ∷ 54 ∷ 55 ∷ 52 ∷ 52 ∷ 48 ∷ 55 ∷ 51 ∷ 55 ∷ 48 ∷ 57 ∷ 53 ∷ 53 ∷ 49 ∷ 54 ∷ 49 ∷ 53 ∷ [])
    -- "a.sbx 1000 1250\nb.sbx 1000 1250\n" gives "a.sbx 2 3 0 6666\nb.sbx 3 3 0 10000\ntotal 5 6 0 8333\n"
    ∷ example (sheet folder (97 ∷ 46 ∷ 115 ∷ 98 ∷ 120 ∷ 32 ∷ 49 ∷ 48 ∷ 48 ∷ 48 ∷ 32 ∷ 49 ∷ 50 ∷ 53 ∷ 48 ∷ 10 ∷ 98 ∷ 46 ∷ 115 ∷ 98 ∷ 120 ∷ 32 ∷ 49 ∷ 48 ∷ 48 ∷ 48 ∷ 32 ∷ 49 ∷ 50 ∷ 53 ∷ 48 ∷ 10 ∷ [])) (97 ∷ 46 ∷ 115 ∷ 98 ∷ 120 ∷ 32 ∷ 50 ∷ 32 ∷ 51 ∷ 32 ∷ 48 ∷ 32 ∷ 54 ∷ 54 ∷ 54 ∷ 54 ∷ 10 ∷ 98 ∷ 46 ∷ 115 ∷ 98 ∷ 120 ∷ 32 ∷ 51 ∷ 32 ∷ 51 ∷ 32 ∷ 48 ∷ 32 ∷ 49 ∷ 48 ∷ 48 ∷ 48 ∷ 48 ∷ 10 ∷ 116 ∷ 111 ∷ 116 ∷ 97 ∷ 108 ∷ 32 ∷ 53 ∷ 32 ∷ 54 ∷ 32 ∷ 48 ∷ 32 ∷ 56 ∷ 51 ∷ 51 ∷ 51 ∷ 10 ∷ [])
    -- "" gives "total 0 0 0 10000\n"
    ∷ example (sheet folder []) (116 ∷ 111 ∷ 116 ∷ 97 ∷ 108 ∷ 32 ∷ 48 ∷ 32 ∷ 48 ∷ 32 ∷ 48 ∷ 32 ∷ 49 ∷ 48 ∷ 48 ∷ 48 ∷ 48 ∷ 10 ∷ [])
    -- "a.sbx 1000 1250\n\nc.sbx 0 0\nb.sbx 1250 1000" gives "a.sbx 2 3 0 6666\n- refused 46\nc.sbx refused 45\nb.sbx refused 1\ntotal 2 3 0 6666\n"
    ∷ example (sheet folder (97 ∷ 46 ∷ 115 ∷ 98 ∷ 120 ∷ 32 ∷ 49 ∷ 48 ∷ 48 ∷ 48 ∷ 32 ∷ 49 ∷ 50 ∷ 53 ∷ 48 ∷ 10 ∷ 10 ∷ 99 ∷ 46 ∷ 115 ∷ 98 ∷ 120 ∷ 32 ∷ 48 ∷ 32 ∷ 48 ∷ 10 ∷ 98 ∷ 46 ∷ 115 ∷ 98 ∷ 120 ∷ 32 ∷ 49 ∷ 50 ∷ 53 ∷ 48 ∷ 32 ∷ 49 ∷ 48 ∷ 48 ∷ 48 ∷ [])) (97 ∷ 46 ∷ 115 ∷ 98 ∷ 120 ∷ 32 ∷ 50 ∷ 32 ∷ 51 ∷ 32 ∷ 48 ∷ 32 ∷ 54 ∷ 54 ∷ 54 ∷ 54 ∷ 10 ∷ 45 ∷ 32 ∷ 114 ∷ 101 ∷ 102 ∷ 117 ∷ 115 ∷ 101 ∷ 100 ∷ 32 ∷ 52 ∷ 54 ∷ 10 ∷ 99 ∷ 46 ∷ 115 ∷ 98 ∷ 120 ∷ 32 ∷ 114 ∷ 101 ∷ 102 ∷ 117 ∷ 115 ∷ 101 ∷ 100 ∷ 32 ∷ 52 ∷ 53 ∷ 10 ∷ 98 ∷ 46 ∷ 115 ∷ 98 ∷ 120 ∷ 32 ∷ 114 ∷ 101 ∷ 102 ∷ 117 ∷ 115 ∷ 101 ∷ 100 ∷ 32 ∷ 49 ∷ 10 ∷ 116 ∷ 111 ∷ 116 ∷ 97 ∷ 108 ∷ 32 ∷ 50 ∷ 32 ∷ 51 ∷ 32 ∷ 48 ∷ 32 ∷ 54 ∷ 54 ∷ 54 ∷ 54 ∷ 10 ∷ []) ∷ []
