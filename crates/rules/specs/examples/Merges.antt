-- Examples of merge, the part rule, loading and saving.
use Rattle.std.specs.Prelude.{ℕ, cond, List, [], ◌∷◌, ◌++◌, eqb, pos, length, set, take, None, Some}
use Rattle.field.specs.Number.{encode}
use Rattle.fnv.specs.Fnv.{fnv64}
use Rattle.rules.specs.declared.Area.{Area}
use Rattle.rules.specs.declared.Checkpoint.{Checkpoint}
use Rattle.rules.specs.declared.Fingerprint.TheVariants.{Unknown, Checked}
use Rattle.rules.specs.declared.Fingerprint.TheVariants as fingerprint
use Rattle.rules.specs.declared.FrameKind.{FrameKind}
use Rattle.rules.specs.declared.FrameKind.TheVariants.{Dst, Dsd}
use Rattle.rules.specs.declared.Held.{Held}
use Rattle.rules.specs.Tests.{number_of}
use Rattle.rules.specs.Values.{Frame, Index, used, complete}
use Rattle.rules.specs.PartRule.{Piece, add_part}
use Rattle.rules.specs.Hints.{joined_hints}
use Rattle.rules.specs.Merge.{merge}
use Rattle.rules.specs.File.{saved, save}
use Rattle.rules.specs.Load.{load}
use Rattle.rules.specs.Run.{Place, Call, merge_call, begin, run}
use Rattle.rules.specs.examples.Starred.{ample, short, area, hint_at, confirmed_at, checkpoint, index_of, three, empty, first, version2, version3, closed, holding, stored_in, known_numbers, hint_numbers, confirmed_numbers, numbers_of, Example, example}
use Rattle.rules.specs.examples.Absorbs.{two, of_image, malformed1}
use Rattle.rules.specs.examples.Hints.{hinting, fingerprint_numbers}

-- ---- values
-- three, with another last checkpoint
abbrev pub ending : Checkpoint → Index
ending c = index_of (area 1000 1250) 100 (checkpoint 0 0 0 ∷ checkpoint 0 0 0 ∷ c ∷ []) None Unknown 2048 [] []

-- thresholds that fall: 4 refuses it
abbrev pub falling : Index
falling = index_of (area 1000 1250) 100 (checkpoint 5 0 0 ∷ checkpoint 0 0 0 ∷ []) None Unknown 2048 [] []

-- without checkpoints
abbrev pub over : Area → ℕ → Index
over a k = index_of a k [] None Unknown 2048 [] []

-- complete, with this end threshold
abbrev pub closed_at : ℕ → Index
closed_at t = index_of (area 1000 1250) 100 three.scan.checkpoints (Some (record { threshold = t; malformed = 0 })) Unknown 2048 [] []

-- the area 1000..1250 of an image with one sector more
abbrev pub larger : Area
larger = record { key = record { slot = 0; start = 1000; end = 1250; channels = 2; sectors = 9001 }; start = 1000; end = 1250 }

-- and with another range under the same key
abbrev pub shorter : Area
shorter = record { key = (area 1000 1250).key; start = 1000; end = 1249 }

-- checkpoints and parts; a frame of four bytes is under assembly from sector 1067 on
abbrev pub assembled : List Checkpoint → List Frame → List Held → Index
assembled cs fs ps =
    record {
      scan =
          record {
            area = area 1000 1250;
            interval = 100;
            budget = 100;
            checkpoints = cs;
            frames = fs;
            parts = ps;
            ending = None;
            malformed = [];
          };
      hinting = record { spacing = 8; most = 2048; hints = []; confirmed = [] };
      fingerprint = Unknown;
      image = None;
    }

abbrev pub part_at : ℕ → ℕ → Held
part_at at len = record { at = at; frame = 0; len = len; number = 5; kind = Dst; remaining = pos 0 }

-- checkpoints 0 and 1 without a part; 0 to 2 with parts at 1 and 2
abbrev pub without : Index
without = assembled (checkpoint 0 0 0 ∷ checkpoint 0 33 0 ∷ []) [] []

abbrev pub with_parts : Index
with_parts =
    assembled (checkpoint 0 0 0 ∷ checkpoint 0 33 0 ∷ checkpoint 0 133 0 ∷ [])
    (record { start = 1067; bytes = 1 ∷ 2 ∷ 3 ∷ 4 ∷ [] } ∷ []) (part_at 1 3 ∷ part_at 2 4 ∷ [])

-- a part for checkpoint 2, beside holding 33: that is of a frame 1, 2, 3, 4 from sector 1067, with number 5 and kind Dsd
abbrev pub piece_of : ℕ → ℕ → FrameKind → List ℕ → Piece
piece_of start number kind bytes =
    record { at = 2; start = start; bytes = bytes; number = number; kind = kind; remaining = pos 0 }

-- three lists that agree, with four hints and four confirmed LSNs together under an M of 4: those of places 0, 1 and of every other
abbrev pub agreeing : ℕ → Index
agreeing i =
    cond (eqb i 0) (hinting (Checked 9) 4 (hint_at 100 10 ∷ hint_at 200 25 ∷ []) (confirmed_at 100 5 1 ∷ confirmed_at 200 7 2 ∷ []))
    (cond (eqb i 1) (hinting (Checked 9) 4 (hint_at 200 25 ∷ hint_at 300 20 ∷ []) (confirmed_at 100 4 1 ∷ confirmed_at 300 6 3 ∷ []))
    (hinting (Checked 9) 4 (hint_at 300 20 ∷ hint_at 400 60 ∷ []) (confirmed_at 100 6 1 ∷ confirmed_at 400 2 4 ∷ [])))

abbrev pub agreeing_at : ℕ → Place
agreeing_at i = record { list = agreeing i; room = ample }

-- (i j) k, and i (j k)
abbrev pub left_first : ℕ → ℕ → ℕ → List Call
left_first i j k = merge_call i j ∷ merge_call i k ∷ []

abbrev pub right_first : ℕ → ℕ → ℕ → List Call
right_first i j k = merge_call j k ∷ merge_call i j ∷ []

-- bytes, and their sum
abbrev pub summed : List ℕ → List ℕ
summed b = b ++ encode 8 (fnv64 b)

-- ---- answers as numbers
unfoldable pub places_of : List Held → List ℕ
places_of [] = []
places_of (p ∷ ps) = p.at ∷ places_of ps

-- checkpoints, completeness, the bytes and the checkpoints of the parts
unfoldable pub scan_numbers : Index → List ℕ
scan_numbers x = length x.scan.checkpoints ∷ cond (complete x.scan) 1 0 ∷ used x.scan.frames ∷ places_of x.scan.parts

-- fingerprint, image id, hints and confirmations
unfoldable pub rest_numbers : Index → List ℕ
rest_numbers x =
    fingerprint_numbers x.fingerprint
    ++ (known_numbers x.image ++ (hint_numbers x.hinting.hints ++ confirmed_numbers x.hinting.confirmed))

abbrev pub merge_numbers : Index → Index → List ℕ
merge_numbers own other = number_of (merge ample own ample other) ∷ []

-- hints and confirmations
abbrev pub hinting_numbers : Index → List ℕ
hinting_numbers x = hint_numbers x.hinting.hints ++ confirmed_numbers x.hinting.confirmed

-- those of the one merged into the other, and of the other merged into the one
abbrev pub either_way : Index → Index → List ℕ
either_way x y = numbers_of hinting_numbers (merge ample y ample x) ++ numbers_of hinting_numbers (merge ample x ample y)

-- those that merges of the three leave in place i, bracketed in both ways
abbrev pub gathered : List Call → ℕ → List ℕ
gathered calls i = hinting_numbers ((run (area 0 1000) calls (begin agreeing_at)).now i).list

abbrev pub both_ways : ℕ → ℕ → ℕ → List ℕ
both_ways i j k = gathered (left_first i j k) i ++ gathered (right_first i j k) i

-- all hints, and each confirmed LSN with its digest and lowest threshold
abbrev pub gathered_all : List ℕ
gathered_all =
    100 ∷ 10 ∷ 200 ∷ 25 ∷ 300 ∷ 20 ∷ 400 ∷ 60 ∷ 100 ∷ 4 ∷ 1 ∷ 200 ∷ 7 ∷ 2 ∷ 300 ∷ 6 ∷ 3 ∷ 400 ∷ 2 ∷ 4 ∷ []

-- the frames' bytes and the parts after a part is handed over, beside holding 33
abbrev pub storing : ℕ → Piece → List ℕ
storing budget p = let h = add_part budget (stored_in (holding 33)) p in used h.frames ∷ length h.frames ∷ length h.parts ∷ []

-- the answer to loading a body and its sum, under the area of x
abbrev pub loaded_number : Index → List ℕ → ℕ
loaded_number x body = number_of (load ample x.scan.area (summed body) 32768)

-- ---- the tables
unfoldable pub merges : List Example
merges =
    -- "own index first in 3 and 4": 3 of both before 4 of either
    example (number_of (merge ample falling ample three) ∷ number_of (merge ample falling short three) ∷ []) (4 ∷ 3 ∷ [])
    -- 41: "same area and interval?"
    ∷ example (merge_numbers (over (area 1000 1250) 100) (over (area 1000 1250) 50)) (41 ∷ [])
    ∷ example (merge_numbers (over (area 1000 1250) 100) (over larger 100)) (41 ∷ [])
    ∷ example (merge_numbers (over (area 1000 1250) 100) (over shorter 100)) (41 ∷ [])
    -- 42: "no differing image id or fingerprint?"
    ∷ example (merge_numbers (of_image 5 three) (of_image 6 three)) (42 ∷ [])
    ∷ example (merge_numbers (hinting (Checked 9) 2048 [] []) (hinting (fingerprint.Held 8) 2048 [] [])) (42 ∷ [])
    -- 43: "common checkpoints, all four fields, and, where both have them, end states equal?"
    ∷ example (merge_numbers three (ending (checkpoint 75 0 0)) ++ merge_numbers three (ending (checkpoint 76 0 0))) (0 ∷ 43 ∷ [])
    ∷ example (merge_numbers three (ending (checkpoint 75 1 0)) ++ merge_numbers three (ending (record { threshold = 75; back = 0; malformed = 0; digest = 8 }))) (43 ∷ 43 ∷ [])
    ∷ example (merge_numbers (closed_at 80) (closed_at 80) ++ merge_numbers (closed_at 80) (closed_at 81)) (0 ∷ 43 ∷ [])
    -- "if the own list is not complete and the other is, or has more checkpoints, appends the rest"
    ∷ example (numbers_of scan_numbers (merge ample two ample three)) (0 ∷ 3 ∷ 0 ∷ 0 ∷ [])
    ∷ example (numbers_of scan_numbers (merge ample three ample two)) (0 ∷ 3 ∷ 0 ∷ 0 ∷ [])
    ∷ example (numbers_of scan_numbers (merge ample (closed three) ample three)) (0 ∷ 3 ∷ 1 ∷ 0 ∷ [])
    -- "appends the rest with their parts": those of common checkpoints are not taken
    ∷ example (numbers_of scan_numbers (merge ample without ample with_parts)) (0 ∷ 3 ∷ 0 ∷ 4 ∷ 2 ∷ [])
    -- "takes its end state and malformed list"
    ∷ example (numbers_of (λ x. x.scan.malformed) (merge ample first ample malformed1)) (0 ∷ 1050 ∷ [])
    -- "takes the other's image id and fingerprint where none is held", without the checked mark
    ∷ example (numbers_of rest_numbers (merge ample three ample (of_image 6 three))) (0 ∷ 0 ∷ 1 ∷ 6 ∷ [])
    ∷ example (numbers_of rest_numbers (merge ample (hinting Unknown 2048 [] []) ample (hinting (Checked 9) 2048 [] []))) (0 ∷ 1 ∷ 9 ∷ 0 ∷ [])
    ∷ example (numbers_of rest_numbers (merge ample (hinting (fingerprint.Held 9) 2048 [] []) ample (hinting (Checked 9) 2048 [] []))) (0 ∷ 1 ∷ 9 ∷ 0 ∷ [])
    ∷ example (numbers_of rest_numbers (merge ample (hinting (Checked 9) 2048 [] []) ample (hinting (fingerprint.Held 9) 2048 [] []))) (0 ∷ 2 ∷ 9 ∷ 0 ∷ [])
    -- "adds its hints and confirmations by their rules": the other's hint stays (change request 5); confirmations only beside the own checked mark
    ∷ example
    (numbers_of rest_numbers
    (merge ample (hinting (Checked 9) 2048 (hint_at 100 10 ∷ []) []) ample
    (hinting (fingerprint.Held 9) 2048 (hint_at 100 11 ∷ hint_at 200 12 ∷ []) (confirmed_at 10 5 1 ∷ []))))
    (0 ∷ 2 ∷ 9 ∷ 0 ∷ 100 ∷ 11 ∷ 200 ∷ 12 ∷ 10 ∷ 5 ∷ 1 ∷ [])
    -- the other way round the number of the first stays
    ∷ example
    (numbers_of rest_numbers
    (merge ample (hinting (fingerprint.Held 9) 2048 (hint_at 100 11 ∷ hint_at 200 12 ∷ []) []) ample (hinting (Checked 9) 2048 (hint_at 100 10 ∷ []) [])))
    (0 ∷ 1 ∷ 9 ∷ 0 ∷ 100 ∷ 10 ∷ 200 ∷ 12 ∷ [])
    ∷ example
    (numbers_of rest_numbers
    (merge ample (hinting (fingerprint.Held 9) 2048 [] []) ample (hinting (Checked 9) 2048 [] (confirmed_at 10 5 1 ∷ []))))
    (0 ∷ 1 ∷ 9 ∷ 0 ∷ []) ∷ []

-- change request 13: "merging in every order and bracketing gives" the same, and loses none
unfoldable pub orders : List Example
orders =
    example (both_ways 0 1 2) (gathered_all ++ gathered_all) ∷ example (both_ways 0 2 1) (gathered_all ++ gathered_all)
    ∷ example (both_ways 1 0 2) (gathered_all ++ gathered_all) ∷ example (both_ways 1 2 0) (gathered_all ++ gathered_all)
    ∷ example (both_ways 2 0 1) (gathered_all ++ gathered_all) ∷ example (both_ways 2 1 0) (gathered_all ++ gathered_all) ∷ []

-- without one of its conditions the order shows
unfoldable pub orders_shown : List Example
orders_shown =
    -- an LSN under two frame numbers, under two digests
    example (either_way (hinting Unknown 4 (hint_at 100 10 ∷ []) []) (hinting Unknown 4 (hint_at 100 11 ∷ []) []))
    (0 ∷ 100 ∷ 10 ∷ 0 ∷ 100 ∷ 11 ∷ [])
    ∷ example
    (either_way (hinting (Checked 9) 4 [] (confirmed_at 100 5 1 ∷ [])) (hinting (Checked 9) 4 [] (confirmed_at 100 5 2 ∷ [])))
    (0 ∷ 100 ∷ 5 ∷ 1 ∷ 0 ∷ 100 ∷ 5 ∷ 2 ∷ [])
    -- one list unchecked, one without a fingerprint
    ∷ example
    (either_way (hinting (Checked 9) 4 [] (confirmed_at 100 5 1 ∷ [])) (hinting (fingerprint.Held 9) 4 [] (confirmed_at 200 6 2 ∷ [])))
    (0 ∷ 200 ∷ 6 ∷ 2 ∷ 0 ∷ 100 ∷ 5 ∷ 1 ∷ 200 ∷ 6 ∷ 2 ∷ [])
    ∷ example (either_way (hinting (Checked 9) 4 [] (confirmed_at 100 5 1 ∷ [])) (hinting Unknown 4 [] [])) (0 ∷ 0 ∷ 100 ∷ 5 ∷ 1 ∷ [])
    -- a limit of 0; limits that differ, and more hints than the smaller
    ∷ example (either_way (hinting Unknown 0 [] []) (hinting Unknown 4 (hint_at 100 10 ∷ []) [])) (0 ∷ 100 ∷ 10 ∷ 0 ∷ [])
    ∷ example (either_way (hinting Unknown 1 (hint_at 100 10 ∷ []) []) (hinting Unknown 2 (hint_at 100 10 ∷ hint_at 200 20 ∷ []) []))
    (0 ∷ 100 ∷ 10 ∷ 200 ∷ 20 ∷ 0 ∷ 100 ∷ 10 ∷ [])
    -- more hints than the limit, in three lists: (0 1) 2 and (0 2) 1
    ∷ example
    (hint_numbers (joined_hints (area 0 1000) 2 (hint_at 100 10 ∷ hint_at 200 10 ∷ []) (hint_at 300 20 ∷ hint_at 400 20 ∷ []))
    ++ hint_numbers
    (joined_hints (area 0 1000) 2 (joined_hints (area 0 1000) 2 (hint_at 100 10 ∷ []) (hint_at 300 20 ∷ hint_at 400 20 ∷ [])) (hint_at 200 10 ∷ [])))
    (200 ∷ 10 ∷ 400 ∷ 20 ∷ 100 ∷ 10 ∷ 200 ∷ 10 ∷ [])
    -- more confirmed LSNs than the limit: every order keeps the same ones, but not all; limits that differ, with all hints within the smaller: all of them
    ∷ example (either_way (hinting (Checked 9) 1 [] (confirmed_at 100 5 1 ∷ [])) (hinting (Checked 9) 1 [] (confirmed_at 200 6 2 ∷ [])))
    (0 ∷ 200 ∷ 6 ∷ 2 ∷ 0 ∷ 200 ∷ 6 ∷ 2 ∷ [])
    ∷ example (either_way (hinting Unknown 2 (hint_at 100 10 ∷ []) []) (hinting Unknown 3 (hint_at 200 20 ∷ []) []))
    (0 ∷ 100 ∷ 10 ∷ 200 ∷ 20 ∷ 0 ∷ 100 ∷ 10 ∷ 200 ∷ 20 ∷ []) ∷ []

unfoldable pub part_rule : List Example
part_rule =
    -- "fits the budget (shared bytes counted once)": of 4 bytes held, a part of 6 adds 2
    example (storing 6 (piece_of 1067 5 Dsd (1 ∷ 2 ∷ 3 ∷ 4 ∷ 5 ∷ 6 ∷ []))) (6 ∷ 1 ∷ 2 ∷ [])
    ∷ example (storing 5 (piece_of 1067 5 Dsd (1 ∷ 2 ∷ 3 ∷ 4 ∷ 5 ∷ 6 ∷ []))) (4 ∷ 1 ∷ 1 ∷ [])
    -- "the last stored part, if any, starts earlier"
    ∷ example (storing 100 (piece_of 1068 6 Dst (9 ∷ []))) (5 ∷ 2 ∷ 2 ∷ [])
    ∷ example (storing 100 (piece_of 1066 6 Dst (9 ∷ []))) (4 ∷ 1 ∷ 1 ∷ [])
    -- "or starts at the same sector with the same number and kind"
    ∷ example (storing 100 (piece_of 1067 6 Dsd (1 ∷ 2 ∷ 3 ∷ 4 ∷ []))) (4 ∷ 1 ∷ 1 ∷ [])
    ∷ example (storing 100 (piece_of 1067 5 Dst (1 ∷ 2 ∷ 3 ∷ 4 ∷ []))) (4 ∷ 1 ∷ 1 ∷ [])
    -- "no more bytes": the last part has three, its frame four
    ∷ example (storing 100 (piece_of 1067 5 Dsd (1 ∷ 2 ∷ 3 ∷ []))) (4 ∷ 1 ∷ 2 ∷ [])
    -- "and the new bytes agree with the frame's held bytes over the shorter length"
    ∷ example (storing 100 (piece_of 1067 5 Dsd (1 ∷ 2 ∷ 3 ∷ 9 ∷ []))) (4 ∷ 1 ∷ 1 ∷ [])
    -- a part without bytes is stored, with a budget of 0 too
    ∷ example (length (add_part 0 (record { frames = []; parts = [] }) (piece_of 1067 5 Dsd [])).parts ∷ []) (1 ∷ []) ∷ []

unfoldable pub files : List Example
files =
    -- "Mistakes that tempt: accepting a version 2 file that adds nothing": the file of one hint with that hint taken out
    example (number_of (load ample version2.scan.area (saved version2) 32768) ∷ []) (0 ∷ [])
    ∷ example (loaded_number version2 (set (take 104 (saved version2)) 96 0) ∷ []) (36 ∷ [])
    -- "reserved fields 0?": that of the hint header gives 28, that of the confirmations 37
    ∷ example (loaded_number version2 (set (take 112 (saved version2)) 100 1) ∷ loaded_number version3 (set (take 152 (saved version3)) 116 1) ∷ []) (28 ∷ 37 ∷ [])
    -- 33: "kind?"
    ∷ example (loaded_number (holding 33) (set (take 164 (saved (holding 33))) 160 2) ∷ []) (33 ∷ [])
    -- 34: "end state?"; one of a list that is not complete gives 28
    ∷ example (loaded_number three (take 152 (saved (closed_at 74))) ∷ loaded_number three (set (take 152 (saved three)) 64 1) ∷ []) (34 ∷ 28 ∷ [])
    -- 38: "nothing left?"
    ∷ example (loaded_number version2 (take 112 (saved version2) ++ (0 ∷ [])) ∷ []) (38 ∷ [])
    -- 40: "is the output long enough?"
    ∷ example (number_of (save ample empty 88) ∷ number_of (save ample empty 87) ∷ []) (0 ∷ 40 ∷ []) ∷ []
