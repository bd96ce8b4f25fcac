-- Examples of change request 9: what entering a list and a jump answer, and the records present afterwards.
use Rattle.std.specs.Prelude.{ℕ, zero, suc, ◌+◌, List, [], ◌∷◌, ◌++◌, replicate, take, Option, None, Some}
use Rattle.rules.specs.declared.Area.{Area}
use Rattle.rules.specs.examples.Starred.{area, numbers_of, Example, example}
use Rattle.rules_shelf.specs.declared.ShelfRecord.{ShelfRecord}
use Rattle.rules_shelf.specs.declared.Shelf.{Shelf}
use Rattle.rules_shelf.specs.Shelf.{no_record, record_of, After, enter, jump}

-- ---- values
-- the area of disc number d
abbrev pub disc : ℕ → Area
disc d = area d 5000

-- the list of disc d: its length and its stamp
abbrev pub list : ℕ → ℕ → ℕ → ShelfRecord
list d len stamp = record_of (disc d) len stamp

abbrev pub shelf : ℕ → ℕ → ℕ → Shelf
shelf n count limit = record { present = n; count = count; limit = limit }

-- a table of 64 records that begins with rs
abbrev pub table_of : List ShelfRecord → List ShelfRecord
table_of rs = take 64 (rs ++ replicate 64 no_record)

-- discs 1 to n with length 1 and stamps 11 to 10 + n
unfoldable pub full : ℕ → List ShelfRecord
full zero = []
full (suc n) = full n ++ list (suc n) 1 (11 + n) ∷ []

-- ---- answers as numbers
-- disc, length and stamp of each record
unfoldable pub list_numbers : List ShelfRecord → List ℕ
list_numbers [] = []
list_numbers (r ∷ rs) = r.start ∷ r.len ∷ r.stamp ∷ list_numbers rs

-- how many are present, the count, and the present records
unfoldable pub shelf_numbers : After → List ℕ
shelf_numbers y = y.shelf.present ∷ y.shelf.count ∷ list_numbers (take y.shelf.present y.table)

-- the first four records of the table
unfoldable pub table_numbers : After → List ℕ
table_numbers y = list_numbers (take 4 y.table)

-- 0 where the area is absent, else 1 and the numbers
unfoldable pub jump_numbers : Option After → List ℕ
jump_numbers None = 0 ∷ []
jump_numbers (Some y) = 1 ∷ shelf_numbers y

abbrev pub entry : Shelf → List ShelfRecord → ℕ → ℕ → List ℕ
entry x t d len = numbers_of shelf_numbers (enter x t (disc d) len)

abbrev pub jump_to : Shelf → List ShelfRecord → ℕ → List ℕ
jump_to x t d = numbers_of jump_numbers (jump x t (disc d))

-- three lists: 10, 20 and 30 bytes, the second the oldest
abbrev pub three : List ShelfRecord
three = table_of (list 1 10 7 ∷ list 2 20 5 ∷ list 3 30 6 ∷ [])

-- the same, the last two with equal stamps
abbrev pub equals : List ShelfRecord
equals = table_of (list 1 10 7 ∷ list 2 20 5 ∷ list 3 30 5 ∷ [])

-- a slot that is neither 0 nor 1
abbrev pub no_area : Area
no_area = record { key = record { slot = 2; start = 1; end = 5000; channels = 2; sectors = 9000 }; start = 1; end = 5000 }

-- ---- the table
unfoldable pub shelves : List Example
shelves =
    -- a new list fits: it stands last, with the next number of the count
    example (entry (shelf 3 9 100) three 4 40) (0 ∷ 4 ∷ 10 ∷ 1 ∷ 10 ∷ 7 ∷ 2 ∷ 20 ∷ 5 ∷ 3 ∷ 30 ∷ 6 ∷ 4 ∷ 40 ∷ 10 ∷ [])
    -- one byte more: the oldest is dropped, the others close up
    ∷ example (entry (shelf 3 9 100) three 4 41) (0 ∷ 3 ∷ 10 ∷ 1 ∷ 10 ∷ 7 ∷ 3 ∷ 30 ∷ 6 ∷ 4 ∷ 41 ∷ 10 ∷ [])
    -- two are dropped, and past the present ones the table is as it was
    ∷ example (entry (shelf 3 9 100) three 4 61) (0 ∷ 2 ∷ 10 ∷ 1 ∷ 10 ∷ 7 ∷ 4 ∷ 61 ∷ 10 ∷ [])
    ∷ example (numbers_of table_numbers (enter (shelf 3 9 100) three (disc 4) 61)) (0 ∷ 1 ∷ 10 ∷ 7 ∷ 4 ∷ 61 ∷ 10 ∷ 3 ∷ 30 ∷ 6 ∷ 0 ∷ 0 ∷ 0 ∷ [])
    -- of two equal stamps the earlier goes
    ∷ example (entry (shelf 3 9 100) equals 4 41) (0 ∷ 3 ∷ 10 ∷ 1 ∷ 10 ∷ 7 ∷ 3 ∷ 30 ∷ 5 ∷ 4 ∷ 41 ∷ 10 ∷ [])
    -- a new length equal to the limit: all others go
    ∷ example (entry (shelf 3 9 60) three 4 60) (0 ∷ 1 ∷ 10 ∷ 4 ∷ 60 ∷ 10 ∷ [])
    -- the own area at the first, a middle and the last place: it is removed before the sum is asked
    ∷ example (entry (shelf 3 9 60) three 1 10) (0 ∷ 3 ∷ 10 ∷ 2 ∷ 20 ∷ 5 ∷ 3 ∷ 30 ∷ 6 ∷ 1 ∷ 10 ∷ 10 ∷ [])
    ∷ example (entry (shelf 3 9 60) three 2 20) (0 ∷ 3 ∷ 10 ∷ 1 ∷ 10 ∷ 7 ∷ 3 ∷ 30 ∷ 6 ∷ 2 ∷ 20 ∷ 10 ∷ [])
    ∷ example (entry (shelf 3 9 60) three 3 30) (0 ∷ 3 ∷ 10 ∷ 1 ∷ 10 ∷ 7 ∷ 2 ∷ 20 ∷ 5 ∷ 3 ∷ 30 ∷ 10 ∷ [])
    -- limit 0 with lengths 0; stamps above the count
    ∷ example (entry (shelf 1 9 0) (table_of (list 1 0 77 ∷ [])) 2 0) (0 ∷ 2 ∷ 10 ∷ 1 ∷ 0 ∷ 77 ∷ 2 ∷ 0 ∷ 10 ∷ [])
    -- 1 of the area given, 3, 4, 51, 50
    ∷ example (numbers_of shelf_numbers (enter (shelf 65 18446744073709551615 100) [] no_area 101)) (1 ∷ [])
    ∷ example (entry (shelf 65 18446744073709551615 100) (take 63 three) 4 101) (3 ∷ [])
    ∷ example (entry (shelf 65 18446744073709551615 100) three 4 101) (4 ∷ [])
    ∷ example (entry (shelf 2 9 100) (table_of (list 1 10 7 ∷ list 1 20 5 ∷ [])) 4 1) (4 ∷ [])
    ∷ example (entry (shelf 3 9 59) three 4 1) (4 ∷ [])
    ∷ example (entry (shelf 2 9 18446744073709551615) (table_of (list 1 9223372036854775808 7 ∷ list 2 9223372036854775808 5 ∷ [])) 4 1) (4 ∷ [])
    ∷ example (entry (shelf 3 18446744073709551615 100) three 4 101) (51 ∷ [])
    ∷ example (entry (shelf 3 9 100) three 4 101) (50 ∷ [])
    ∷ example (entry (shelf 3 18446744073709551614 100) three 4 100) (0 ∷ 1 ∷ 18446744073709551615 ∷ 4 ∷ 100 ∷ 18446744073709551615 ∷ [])
    -- a jump: the record has the next number, in its place
    ∷ example (jump_to (shelf 3 9 100) three 2) (0 ∷ 1 ∷ 3 ∷ 10 ∷ 1 ∷ 10 ∷ 7 ∷ 2 ∷ 20 ∷ 10 ∷ 3 ∷ 30 ∷ 6 ∷ [])
    -- an absent area; the third record is not present
    ∷ example (jump_to (shelf 3 9 100) three 4) (0 ∷ 0 ∷ [])
    ∷ example (jump_to (shelf 2 9 100) three 3) (0 ∷ 0 ∷ [])
    -- 51 is asked before the area is looked for
    ∷ example (jump_to (shelf 3 18446744073709551615 100) three 4) (51 ∷ [])
    ∷ example (numbers_of jump_numbers (jump (shelf 3 9 100) three no_area)) (1 ∷ [])
    ∷ example (jump_to (shelf 3 9 100) (take 63 three) 1) (3 ∷ [])
    ∷ example (jump_to (shelf 3 9 59) three 1) (4 ∷ []) ∷ []

-- a full shelf of 64: the oldest goes, but none where the own one makes room
unfoldable pub full_shelves : List Example
full_shelves =
    example (take 6 (entry (shelf 64 99 1000) (full 64) 65 1)) (0 ∷ 64 ∷ 100 ∷ 2 ∷ 1 ∷ 12 ∷ [])
    ∷ example (take 6 (entry (shelf 64 99 1000) (full 64) 64 1)) (0 ∷ 64 ∷ 100 ∷ 1 ∷ 1 ∷ 11 ∷ [])
    ∷ example (take 6 (entry (shelf 63 99 1000) (full 64) 65 1)) (0 ∷ 64 ∷ 100 ∷ 1 ∷ 1 ∷ 11 ∷ []) ∷ []
