-- Examples of first records and of the hint recorder: see, flush and take.
use Rattle.std.specs.Prelude.{ℕ, ◌/◌, ◌%◌, List, [], ◌∷◌, ◌++◌, replicate, Option, None, Some}
use Rattle.rules.specs.declared.First.TheVariants.{Number}
use Rattle.rules.specs.declared.Hint.{Hint}
use Rattle.rules.specs.Tests.{Accepted, bind, number_of}
use Rattle.rules.specs.Values.{HintRecorder}
use Rattle.rules.specs.Create.{hint_recorder, empty_index}
use Rattle.rules.specs.FirstRecord.{first_record, record_number}
use Rattle.rules.specs.Hints.{seen_record, SeenSector, see, flush, TakenHints, take_list}
use Rattle.rules.specs.examples.Starred.{ample, area, hint_at, first_numbers, known_numbers, hint_numbers, numbers_of, Example, example}

-- ---- values
-- a hint recorder of spacing 75: the number listed last, the tail and the list
abbrev pub seeing : Option ℕ → Option Hint → List Hint → HintRecorder
seeing last tail list = record { spacing = 75; last = last; tail = tail; list = list }

-- after a record numbered 100 at LSN 1000
abbrev pub after100 : HintRecorder
after100 = seeing (Some 100) None (hint_at 1000 100 ∷ [])

-- with 174 at LSN 1001 as its tail
abbrev pub tail174 : HintRecorder
tail174 = seeing (Some 100) (Some (hint_at 1001 174)) (hint_at 1000 100 ∷ [])

-- a sector whose first record has a number below 4,500
abbrev pub sector_of : ℕ → List ℕ
sector_of t = 4 ∷ 0 ∷ t / 75 ∷ t % 75 ∷ []

-- ---- answers as numbers
unfoldable pub tail_numbers : Option Hint → List ℕ
tail_numbers None = 0 ∷ []
tail_numbers (Some h) = 1 ∷ h.lsn ∷ h.number ∷ []

-- the number listed last, the tail and the list
unfoldable pub seen_numbers : HintRecorder → List ℕ
seen_numbers r = known_numbers r.last ++ (tail_numbers r.tail ++ hint_numbers r.list)

-- the hint recorder after a taking, then the list
unfoldable pub taken_numbers : TakenHints → List ℕ
taken_numbers t = seen_numbers t.recorder ++ hint_numbers t.list

-- 1, the spacing and the rest of a hint recorder, 0 where there is none
unfoldable pub spacing_numbers : Option HintRecorder → List ℕ
spacing_numbers None = 0 ∷ []
spacing_numbers (Some r) = 1 ∷ r.spacing ∷ seen_numbers r

-- with a list that has space for 65,536: the recorder afterwards
abbrev pub saw : HintRecorder → ℕ → List ℕ → List ℕ
saw r lsn sector = numbers_of (λ (s : SeenSector). seen_numbers s.recorder) (see 65536 r lsn sector)

-- what the sector says
abbrev pub told : HintRecorder → ℕ → List ℕ → List ℕ
told r lsn sector = numbers_of (λ (s : SeenSector). first_numbers s.first) (see 65536 r lsn sector)

-- ---- the tables
-- f = 1 and k = 7: the three bytes begin at 15
abbrev pub long_header : List ℕ → List ℕ
long_header times = 0xe4 ∷ (replicate 14 0 ++ times)

-- first records
unfoldable pub first_records : List Example
first_records =
    example (first_numbers (first_record [])) (2 ∷ [])
    -- no frame starts there, however short the sector is
    ∷ example (first_numbers (first_record (0 ∷ []))) (1 ∷ [])
    ∷ example (first_numbers (first_record (0xe0 ∷ []))) (1 ∷ [])
    -- a sector that ends with the three bytes is whole
    ∷ example (first_numbers (first_record (4 ∷ 1 ∷ 2 ∷ []))) (2 ∷ [])
    ∷ example (first_numbers (first_record (4 ∷ 1 ∷ 2 ∷ 3 ∷ []))) (4653 ∷ 1 ∷ [])
    ∷ example (first_numbers (first_record (0x24 ∷ 0 ∷ 0 ∷ 1 ∷ 2 ∷ 3 ∷ []))) (4653 ∷ 3 ∷ [])
    ∷ example (first_numbers (first_record (long_header (1 ∷ 2 ∷ [])))) (2 ∷ [])
    ∷ example (first_numbers (first_record (long_header (1 ∷ 2 ∷ 3 ∷ [])))) (4653 ∷ 15 ∷ [])
    -- the largest number
    ∷ example (first_numbers (first_record (4 ∷ 255 ∷ 255 ∷ 255 ∷ []))) (1166880 ∷ 1 ∷ [])
    -- the number alone
    ∷ example (known_numbers (record_number []) ++ known_numbers (record_number (0xe0 ∷ [])) ++ known_numbers (record_number (4 ∷ 1 ∷ 2 ∷ 3 ∷ [])))
    (0 ∷ 0 ∷ 1 ∷ 4653 ∷ []) ∷ []

unfoldable pub hint_recorders : List Example
hint_recorders =
    -- "Spacing or M of 0: no hint recorder"
    example (numbers_of spacing_numbers (hint_recorder ample (empty_index (area 0 1000) 100 100 75 1))) (0 ∷ 1 ∷ 75 ∷ 0 ∷ 0 ∷ [])
    ∷ example (numbers_of spacing_numbers (hint_recorder ample (empty_index (area 0 1000) 100 100 0 1))) (0 ∷ 0 ∷ [])
    ∷ example (numbers_of spacing_numbers (hint_recorder ample (empty_index (area 0 1000) 100 100 75 0))) (0 ∷ 0 ∷ [])
    -- "lists a record if none was ever listed"
    ∷ example (saw (seeing None None []) 1000 (sector_of 100)) (0 ∷ 1 ∷ 100 ∷ 0 ∷ 1000 ∷ 100 ∷ [])
    -- "spacing 75 after 100 makes 174 the tail, lists 175 and 99"
    ∷ example (saw after100 1001 (sector_of 174)) (0 ∷ 1 ∷ 100 ∷ 1 ∷ 1001 ∷ 174 ∷ 1000 ∷ 100 ∷ [])
    ∷ example (saw after100 1001 (sector_of 175)) (0 ∷ 1 ∷ 175 ∷ 0 ∷ 1000 ∷ 100 ∷ 1001 ∷ 175 ∷ [])
    ∷ example (saw after100 1001 (sector_of 99)) (0 ∷ 1 ∷ 99 ∷ 0 ∷ 1000 ∷ 100 ∷ 1001 ∷ 99 ∷ [])
    -- "Listing and flushing clear the tail"
    ∷ example (saw tail174 1002 (sector_of 175)) (0 ∷ 1 ∷ 175 ∷ 0 ∷ 1000 ∷ 100 ∷ 1002 ∷ 175 ∷ [])
    -- "at least last + spacing (saturating)"
    ∷ example (seen_numbers (seen_record (seeing (Some 4294967290) None []) 1000 (Number (record { number = 4294967295; offset = 1 }))))
    (1 ∷ 4294967295 ∷ 0 ∷ 1000 ∷ 4294967295 ∷ [])
    -- "A record whose LSN exceeds 4,294,967,295 is passed over"
    ∷ example (saw after100 4294967295 (sector_of 175)) (0 ∷ 1 ∷ 175 ∷ 0 ∷ 1000 ∷ 100 ∷ 4294967295 ∷ 175 ∷ [])
    ∷ example (saw tail174 4294967296 (sector_of 175)) (0 ∷ 1 ∷ 100 ∷ 1 ∷ 1001 ∷ 174 ∷ 1000 ∷ 100 ∷ [])
    -- its first record is told all the same, and so it is where it becomes the tail
    ∷ example (told tail174 4294967296 (sector_of 175)) (0 ∷ 175 ∷ 1 ∷ [])
    ∷ example (told after100 1001 (sector_of 174)) (0 ∷ 174 ∷ 1 ∷ [])
    -- "a sector without a frame start leaves the hint recorder unchanged"
    ∷ example (saw tail174 1002 (0x20 ∷ 0 ∷ 0 ∷ 1 ∷ 2 ∷ 3 ∷ [])) (0 ∷ 1 ∷ 100 ∷ 1 ∷ 1001 ∷ 174 ∷ 1000 ∷ 100 ∷ [])
    ∷ example (saw tail174 1002 []) (0 ∷ 1 ∷ 100 ∷ 1 ∷ 1001 ∷ 174 ∷ 1000 ∷ 100 ∷ [])
    ∷ example (told tail174 1002 (0x20 ∷ 0 ∷ 0 ∷ 1 ∷ 2 ∷ 3 ∷ [])) (0 ∷ 1 ∷ [])
    ∷ example (told tail174 1002 []) (0 ∷ 2 ∷ [])
    -- "the tail, which flush lists under the same bound"; the number listed last stays, as in the source's flush
    ∷ example (numbers_of seen_numbers (flush 65536 tail174)) (0 ∷ 1 ∷ 100 ∷ 0 ∷ 1000 ∷ 100 ∷ 1001 ∷ 174 ∷ [])
    ∷ example (numbers_of seen_numbers (flush 65536 after100)) (0 ∷ 1 ∷ 100 ∷ 0 ∷ 1000 ∷ 100 ∷ [])
    -- "if none was ever listed, even before a taking": the number listed last outlasts the taking, and so does the tail
    ∷ example (numbers_of taken_numbers (take_list 65536 tail174)) (0 ∷ 1 ∷ 100 ∷ 1 ∷ 1001 ∷ 174 ∷ 1000 ∷ 100 ∷ [])
    ∷ example (numbers_of seen_numbers (bind (take_list 65536 after100) (λ t. bind (see 65536 t.recorder 1001 (sector_of 174)) (λ s. Accepted s.recorder))))
    (0 ∷ 1 ∷ 100 ∷ 1 ∷ 1001 ∷ 174 ∷ [])
    -- 3: "a hint recorder's own list 65,536"
    ∷ example
    (number_of (see 65535 after100 1001 []) ∷ number_of (flush 65535 after100) ∷ number_of (take_list 65535 after100) ∷ []) (3 ∷ 3 ∷ 3 ∷ []) ∷ []
