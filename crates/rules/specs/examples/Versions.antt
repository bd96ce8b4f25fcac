-- Examples of change request 12: a hint limit M above 65,536, and version 4 of the file.
use Rattle.std.specs.Prelude.{ℕ, List, [], ◌∷◌, ◌++◌, length, replicate, set, take, drop}
use Rattle.field.specs.Number.{put}
use Rattle.rules.specs.declared.Fingerprint.TheVariants.{Unknown, Checked}
use Rattle.rules.specs.Tests.{number_of, after}
use Rattle.rules.specs.Values.{Index, Lengths}
use Rattle.rules.specs.Create.{new}
use Rattle.rules.specs.Merge.{merge}
use Rattle.rules.specs.File.{read_header, body_of, saved_length, save, version_of}
use Rattle.rules.specs.Load.{header_number, read_sections, limited}
use Rattle.rules.specs.examples.Starred.{ample, area, hint_at, confirmed_at, version2, version3, index_numbers, numbers_of, reloaded, Example, example}
use Rattle.rules.specs.examples.Hints.{hinting}

-- ---- values
-- the lowest limit of version 4, with nothing else
abbrev pub lowest : Index
lowest = hinting Unknown 65537 [] []

-- with a fingerprint
abbrev pub stated4 : Index
stated4 = hinting (Checked 9) 65537 [] []

-- with a hint and a confirmation too
abbrev pub version4 : Index
version4 = hinting (Checked 9) 65537 (hint_at 100 10 ∷ []) (confirmed_at 10 1 1 ∷ [])

-- tables with room for so many hints
abbrev pub roomy : ℕ → Lengths
roomy n = record { checkpoints = 100; frames = 100; store = 100; parts = 100; malformed = 4096; hints = n; confirmed = 300000 }

-- ---- answers as numbers
-- the limit of a new list
abbrev pub new_most : ℕ → List ℕ
new_most most = numbers_of (λ x. x.hinting.most ∷ []) (new ample (area 0 1000) 100 100 8 most)

-- the answer to saving a list of this limit, in tables with room for n hints
abbrev pub saved_in : ℕ → ℕ → ℕ
saved_in n most = number_of (save (roomy n) (hinting Unknown most [] []) 120)

-- version, length told, and the bytes before the sum
abbrev pub lengths : Index → List ℕ
lengths x = version_of x ∷ saved_length x ∷ length (body_of x) ∷ []

-- what 23 to 38 answer to the body of x, changed by f; the sum is asked before them
abbrev pub changed : Index → (List ℕ → List ℕ) → ℕ
changed x f =
    let b = f (body_of x) in
    let rest = drop 80 b in
    number_of (after (header_number x.scan.area (read_header b) (length rest)) (read_sections x.scan.area (read_header b) rest))

-- with this M in the file
abbrev pub with_most : Index → ℕ → ℕ
with_most x most = changed x (λ b. put 4 b 92 most)

-- ---- the table
unfoldable pub versions : List Example
versions =
    -- "a new list's M is lowered only above 262,144"
    example (new_most 65537 ++ (new_most 262144 ++ new_most 262145)) (0 ∷ 65537 ∷ 0 ∷ 262144 ∷ 0 ∷ 262144 ∷ [])
    -- "question 3 now wants a hint table of M + 262,144", also of M = 0
    ∷ example (saved_in 262144 0 ∷ saved_in 262143 0 ∷ saved_in 524288 262144 ∷ saved_in 524287 262144 ∷ []) (0 ∷ 3 ∷ 0 ∷ 3 ∷ [])
    -- "The hint limit rises": 4 of an M of 262,145
    ∷ example (saved_in 524289 262145 ∷ []) (4 ∷ [])
    -- "A list whose limit is above 65,536 is saved as version 4": with both headers
    ∷ example (lengths (hinting Unknown 65536 [] []) ++ lengths lowest) (2 ∷ 112 ∷ 104 ∷ 4 ∷ 120 ∷ 112 ∷ [])
    ∷ example (lengths stated4 ++ lengths version4) (4 ∷ 120 ∷ 112 ∷ 4 ∷ 144 ∷ 136 ∷ [])
    -- "the fingerprint flag optional and a confirmation count that may be 0"
    ∷ example (reloaded lowest 1048592) (0 ∷ 0 ∷ 0 ∷ 0 ∷ 0 ∷ 0 ∷ 4 ∷ 65537 ∷ 0 ∷ 0 ∷ [])
    ∷ example (reloaded version4 1048592) (0 ∷ 0 ∷ 0 ∷ 0 ∷ 0 ∷ 0 ∷ 4 ∷ 65537 ∷ 1 ∷ 1 ∷ [])
    ∷ example (changed stated4 (λ b. b) ∷ []) (0 ∷ [])
    -- "and is 0 without that flag": 37
    ∷ example (changed version4 (λ b. set (set b 14 0) 80 0) ∷ []) (37 ∷ [])
    -- "loading takes version 4 only with a limit of 65,537 to 262,144, else 36"
    ∷ example (with_most lowest 65536 ∷ with_most lowest 262144 ∷ with_most lowest 262145 ∷ with_most lowest 4294967295 ∷ []) (36 ∷ 0 ∷ 36 ∷ 36 ∷ [])
    -- versions 2 and 3 up to 65,536
    ∷ example (with_most version2 65536 ∷ with_most version2 65537 ∷ with_most version3 65536 ∷ with_most version3 65537 ∷ []) (0 ∷ 36 ∷ 0 ∷ 36 ∷ [])
    -- "Question 23 now admits it"
    ∷ example (changed lowest (λ b. set b 8 0) ∷ changed lowest (λ b. set b 8 5) ∷ changed lowest (λ b. put 4 b 8 4294967295) ∷ []) (23 ∷ 23 ∷ 23 ∷ [])
    -- 25: another flag, and byte 15
    ∷ example (changed lowest (λ b. set b 14 4) ∷ changed lowest (λ b. set b 15 1) ∷ []) (25 ∷ 25 ∷ [])
    -- too short for both headers 30, for two hints 36, for a confirmation 37; eight bytes more 38
    ∷ example (changed lowest (λ b. take 111 b) ∷ changed lowest (λ b. set b 96 2) ∷ changed stated4 (λ b. set b 104 1) ∷ changed lowest (λ b. b ++ replicate 8 0) ∷ [])
    (30 ∷ 36 ∷ 37 ∷ 38 ∷ [])
    -- a fingerprint without the flag 36; the reserved field of the confirmations 37
    ∷ example (changed lowest (λ b. set b 80 1) ∷ changed lowest (λ b. set b 108 1) ∷ []) (36 ∷ 37 ∷ [])
    -- a load limit may bring M to 65,536 or less: 524,296 is the lowest that leaves 65,537; 0 leaves no hint
    ∷ example (index_numbers (limited 524296 version4)) (0 ∷ 0 ∷ 0 ∷ 0 ∷ 0 ∷ 4 ∷ 65537 ∷ 1 ∷ 1 ∷ [])
    ∷ example (index_numbers (limited 524295 version4)) (0 ∷ 0 ∷ 0 ∷ 0 ∷ 0 ∷ 3 ∷ 65536 ∷ 1 ∷ 1 ∷ [])
    ∷ example (index_numbers (limited 524295 lowest)) (0 ∷ 0 ∷ 0 ∷ 0 ∷ 0 ∷ 2 ∷ 65536 ∷ 0 ∷ 0 ∷ [])
    ∷ example (index_numbers (limited 0 version4)) (0 ∷ 0 ∷ 0 ∷ 0 ∷ 0 ∷ 2 ∷ 0 ∷ 0 ∷ 0 ∷ [])
    -- lists of limits on both sides are merged, and the own limit stays
    ∷ example (numbers_of index_numbers (merge ample lowest ample version2)) (0 ∷ 0 ∷ 0 ∷ 0 ∷ 0 ∷ 0 ∷ 4 ∷ 65537 ∷ 1 ∷ 0 ∷ [])
    ∷ example (numbers_of index_numbers (merge ample version2 ample lowest)) (0 ∷ 0 ∷ 0 ∷ 0 ∷ 0 ∷ 0 ∷ 2 ∷ 2048 ∷ 1 ∷ 0 ∷ []) ∷ []
