-- Examples with lists and frames of 65,536, one less and one more.
use Rattle.std.specs.Prelude.{ℕ, cond, List, [], ◌∷◌, ◌++◌, length, replicate, Some}
use Rattle.rules.specs.Tests.{number_of}
use Rattle.rules.specs.Values.{HintRecorder, Recorder}
use Rattle.rules.specs.Hints.{SeenSector, see, flush, question13}
use Rattle.rules.specs.Record.{record_at}
use Rattle.rules.specs.examples.Starred.{ample, hint_at, recording, known_numbers, part_numbers, numbers_of, Example, example}
use Rattle.rules.specs.examples.HintRecorders.{seeing, sector_of, tail_numbers, told}
use Rattle.rules.specs.examples.Recorders.{frame_of, sector}

-- ---- values
-- a hint recorder with n hints listed, and a tail
abbrev pub filled_to : ℕ → HintRecorder
filled_to n = seeing (Some 100) (Some (hint_at 1001 174)) (replicate n (hint_at 1000 100))

-- a budget of 100,000
abbrev pub roomier : Recorder → Recorder
roomier r =
    record {
      area = r.area;
      interval = r.interval;
      budget = 100000;
      first = r.first;
      from = r.from;
      checkpoints = r.checkpoints;
      frames = r.frames;
      parts = r.parts;
      mode = r.mode;
    }

-- the length of the list, the number listed last and the tail
unfoldable pub end_numbers : HintRecorder → List ℕ
end_numbers r = length r.list ∷ (known_numbers r.last ++ tail_numbers r.tail)

-- after a sector is seen at LSN 1002
abbrev pub end_seen : HintRecorder → List ℕ → List ℕ
end_seen r sector = numbers_of (λ (s : SeenSector). end_numbers s.recorder) (see 65536 r 1002 sector)

-- ---- the table
unfoldable pub bounds : List Example
bounds =
    -- see: "while the list has under 65,536; else it becomes the tail"
    example (end_seen (filled_to 65535) (sector_of 175)) (0 ∷ 65536 ∷ 1 ∷ 175 ∷ 0 ∷ [])
    ∷ example (end_seen (filled_to 65536) (sector_of 175)) (0 ∷ 65536 ∷ 1 ∷ 100 ∷ 1 ∷ 1002 ∷ 175 ∷ [])
    ∷ example (told (filled_to 65536) 1002 (sector_of 175)) (0 ∷ 175 ∷ 1 ∷ [])
    -- "the tail, which flush lists under the same bound"
    ∷ example (numbers_of end_numbers (flush 65536 (filled_to 65536))) (0 ∷ 65536 ∷ 1 ∷ 100 ∷ 0 ∷ [])
    -- 4: "A hint recorder lists at most 65,536 hints"
    ∷ example (number_of (see 65537 (filled_to 65537) 1001 []) ∷ []) (4 ∷ [])
    -- 13: "at most 65,536"
    ∷ example (cond (question13 (replicate 65536 (hint_at 100 1))) 0 13 ∷ cond (question13 (replicate 65537 (hint_at 100 1))) 0 13 ∷ []) (0 ∷ 13 ∷ [])
    -- record: a part of "at most 65,536 bytes"
    ∷ example (numbers_of part_numbers (record_at ample (roomier recording) 1100 0 0 (frame_of 1067 5 65536) sector)) (0 ∷ 33 ∷ 1 ∷ 65536 ∷ [])
    ∷ example (numbers_of part_numbers (record_at ample (roomier recording) 1100 0 0 (frame_of 1067 5 65537) sector)) (0 ∷ 33 ∷ 0 ∷ 0 ∷ []) ∷ []
