-- Examples of change request 14.
use Rattle.std.specs.Prelude.{ℕ, ◌+◌, cond, List, [], ◌∷◌, ◌++◌, length, set, take, Option, None, Some}
use Rattle.field.specs.Number.{encode}
use Rattle.rules.specs.declared.Area.{Area}
use Rattle.rules.specs.declared.Fingerprint.TheVariants.{Unknown}
use Rattle.rules.specs.Tests.{Answer, number_of}
use Rattle.rules.specs.Values.{Index}
use Rattle.rules.specs.Create.{empty_index}
use Rattle.rules.specs.examples.Starred.{ample, short, area, checkpoint, index_of, three, empty, numbers_of, Example, example}
use Rattle.rules_disc.specs.Disc.{entry, Disc, disc_bytes, entries_ok, save_one, save_both, load_disc}

-- ---- values
-- the multichannel area of the same disc
abbrev pub area1 : Area
area1 = record { key = record { slot = 1; start = 2000; end = 2100; channels = 5; sectors = 9000 }; start = 2000; end = 2100 }

-- its list: one checkpoint
abbrev pub multi : Index
multi = index_of area1 100 (checkpoint 0 0 0 ∷ []) None Unknown 2048 [] []

-- an empty list of version 4
abbrev pub long : Index
long = empty_index (area 1000 1250) 100 100 8 65537

-- both in one file: 28 bytes, 160 of three, 112 of multi
abbrev pub pair : List ℕ
pair = disc_bytes (three ∷ multi ∷ [])

-- ---- answers as numbers
-- how many checkpoints a list has, and one more; 0 where there is no list
unfoldable pub count_of : Option Index → ℕ
count_of None = 0
count_of (Some x) = 1 + length x.scan.checkpoints

unfoldable pub disc_numbers : Disc → List ℕ
disc_numbers d = count_of d.slot0 ∷ count_of d.slot1 ∷ []

-- of a file, under both areas
abbrev pub opened : List ℕ → List ℕ
opened b = numbers_of disc_numbers (load_disc ample ample (area 1000 1250) area1 b 32768)

-- the first bytes of a file that was saved
abbrev pub begins : ℕ → Answer (List ℕ) → List ℕ
begins n r = numbers_of (λ b. take n b) r

-- ---- the table
unfoldable pub discs : List Example
discs =
    -- "a count of 1 or 2 in four bytes, then for each list its slot (0 or 1), offset from the file's start and length, four bytes each"
    example (begins 16 (save_one ample empty 104)) (0 ∷ 1 ∷ 0 ∷ 0 ∷ 0 ∷ 0 ∷ 0 ∷ 0 ∷ 0 ∷ 16 ∷ 0 ∷ 0 ∷ 0 ∷ 88 ∷ 0 ∷ 0 ∷ 0 ∷ [])
    ∷ example (begins 28 (save_both ample three ample multi 300))
    (0 ∷ 2 ∷ 0 ∷ 0 ∷ 0 ∷ 0 ∷ 0 ∷ 0 ∷ 0 ∷ 28 ∷ 0 ∷ 0 ∷ 0 ∷ 160 ∷ 0 ∷ 0 ∷ 0 ∷ 1 ∷ 0 ∷ 0 ∷ 0 ∷ 188 ∷ 0 ∷ 0 ∷ 0 ∷ 112 ∷ 0 ∷ 0 ∷ 0 ∷ [])
    -- "slots rising": whichever is given first
    ∷ example (numbers_of (λ b. b) (save_both ample multi ample three 300)) (0 ∷ pair)
    -- 40, after 54
    ∷ example (number_of (save_both ample three ample multi 299) ∷ number_of (save_both ample three ample three 0) ∷ []) (40 ∷ 54 ∷ [])
    -- 1 to 4 before 54, of both lists
    ∷ example (number_of (save_both ample three short three 300) ∷ []) (3 ∷ [])
    -- "one needs an offset or length above four bytes"
    ∷ example (cond (entries_ok 0 (entry 0 28 4294967295 ∷ [])) 1 0 ∷ cond (entries_ok 0 (entry 0 28 4294967296 ∷ [])) 1 0 ∷ cond (entries_ok 0 (entry 0 28 10 ∷ entry 1 4294967296 10 ∷ [])) 1 0 ∷ [])
    (1 ∷ 0 ∷ 0 ∷ [])
    -- both lists, the list of one slot, that of the other
    ∷ example (opened pair) (0 ∷ 4 ∷ 2 ∷ [])
    ∷ example (opened (disc_bytes (three ∷ [])) ++ opened (disc_bytes (multi ∷ []))) (0 ∷ 4 ∷ 0 ∷ 0 ∷ 0 ∷ 2 ∷ [])
    -- "each an ordinary list file": a body may be of version 4, 120 bytes
    ∷ example (begins 16 (save_one ample long 136)) (0 ∷ 1 ∷ 0 ∷ 0 ∷ 0 ∷ 0 ∷ 0 ∷ 0 ∷ 0 ∷ 16 ∷ 0 ∷ 0 ∷ 0 ∷ 120 ∷ 0 ∷ 0 ∷ 0 ∷ [])
    ∷ example (opened (disc_bytes (long ∷ multi ∷ []))) (0 ∷ 1 ∷ 2 ∷ [])
    -- "Loading takes the areas of slots 0 and 1, asks question 1 of both (another slot gives 1)", before 54
    ∷ example
    (number_of (load_disc ample ample area1 (area 1000 1250) pair 32768) ∷ number_of (load_disc ample ample (area 1000 1250) (area 1000 1250) pair 32768)
    ∷ number_of (load_disc ample ample (area 1000 1250) (area 1000 1250) [] 32768) ∷ [])
    (1 ∷ 1 ∷ 1 ∷ [])
    -- 54: a file shorter than its table, a count of 0 or 3, a slot of 2, slots that do not rise, a gap, an overlap, a length that is too large or too small, bytes behind
    ∷ example (opened [] ++ (opened (take 3 pair) ++ (opened (take 27 pair) ++ opened (take 4 pair)))) (54 ∷ 54 ∷ 54 ∷ 54 ∷ [])
    ∷ example (opened (set pair 0 0) ++ (opened (set pair 0 3) ++ (opened (set pair 3 1) ++ opened (encode 4 0)))) (54 ∷ 54 ∷ 54 ∷ 54 ∷ [])
    ∷ example (opened (set pair 16 2) ++ (opened (set pair 16 0) ++ (opened (set pair 4 1) ++ opened (set (set pair 4 1) 16 0)))) (54 ∷ 54 ∷ 54 ∷ 54 ∷ [])
    ∷ example (opened (set pair 8 29) ++ (opened (set pair 20 189) ++ opened (set pair 20 187))) (54 ∷ 54 ∷ 54 ∷ [])
    ∷ example (opened (set pair 12 161) ++ (opened (set pair 24 113) ++ opened (set pair 24 111))) (54 ∷ 54 ∷ 54 ∷ [])
    ∷ example (opened (pair ++ (0 ∷ [])) ++ opened (take 299 pair)) (54 ∷ 54 ∷ [])
    -- "after it the first failing body's own number is given": a changed byte gives 22, a list of the other slot 26, a body of 0 bytes 20, short tables 3
    ∷ example (opened (set pair 187 0) ++ (opened (set pair 299 0) ++ opened (set (set pair 299 0) 28 0))) (22 ∷ 22 ∷ 21 ∷ [])
    ∷ example (opened (set (disc_bytes (three ∷ [])) 4 1)) (26 ∷ [])
    ∷ example (opened (encode 4 1 ++ (encode 4 0 ++ (encode 4 16 ++ encode 4 0)))) (20 ∷ [])
    ∷ example
    (number_of (load_disc short ample (area 1000 1250) area1 (set pair 299 0) 32768) ∷ number_of (load_disc ample short (area 1000 1250) area1 pair 32768)
    ∷ number_of (load_disc ample short (area 1000 1250) area1 (disc_bytes (three ∷ [])) 32768) ∷ [])
    (3 ∷ 3 ∷ 0 ∷ []) ∷ []
