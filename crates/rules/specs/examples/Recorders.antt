-- Examples of recorder, record and finish.
use Rattle.std.specs.Prelude.{ℕ, List, [], ◌∷◌, pos, length, replicate, Option, None, Some}
use Rattle.rules.specs.declared.Checkpoint.{Checkpoint}
use Rattle.rules.specs.declared.EndState.{EndState}
use Rattle.rules.specs.declared.FrameKind.TheVariants.{Dst}
use Rattle.rules.specs.declared.Mode.{Mode}
use Rattle.rules.specs.declared.Mode.TheVariants.{Running, Finished, Stopped}
use Rattle.rules.specs.Tests.{number_of}
use Rattle.rules.specs.Values.{Recorder, last_checkpoint}
use Rattle.rules.specs.Create.{recorder, empty_recorder, empty_index}
use Rattle.rules.specs.Record.{Assembling, recorded, record_at, with_mode, finish}
use Rattle.rules.specs.examples.Starred.{ample, area, checkpoint, three, closed, recording, part_numbers, numbers_of, Example, example}

-- ---- values
-- a recorder of 1000..1250 by 100 that began with checkpoint number first
abbrev pub recorder_at : ℕ → List Checkpoint → Mode → Recorder
recorder_at first cs m =
    record {
      area = area 1000 1250;
      interval = 100;
      budget = 100;
      first = first;
      from = 1000;
      checkpoints = cs;
      frames = [];
      parts = [];
      mode = m;
    }

-- at checkpoint 1, after one with threshold 10 and malformed count 0
abbrev pub after10 : Recorder
after10 = recorder_at 0 (checkpoint 10 0 0 ∷ []) Running

-- at checkpoint 2, after one with malformed count 3
abbrev pub after3 : Recorder
after3 = recorder_at 0 (checkpoint 0 0 0 ∷ checkpoint 0 0 3 ∷ []) Running

-- every boundary passed: the last threshold is 75, the last malformed count 3
abbrev pub all_passed : Recorder
all_passed = recorder_at 1 (checkpoint 0 0 0 ∷ checkpoint 75 0 3 ∷ []) Running

-- a frame of n bytes under assembly
abbrev pub frame_of : ℕ → ℕ → ℕ → Option Assembling
frame_of start number n = Some (record { start = start; number = number; kind = Dst; remaining = pos 0; bytes = replicate n 0 })

abbrev pub sector : List ℕ
sector = replicate 2048 0

abbrev pub end : ℕ → ℕ → EndState
end t m = record { threshold = t; malformed = m }

-- the recorder that an empty area's index gives
abbrev pub nowhere : Recorder
nowhere = empty_recorder (empty_index (area 1000 1000) 100 100 8 2048).scan 1000

-- ---- answers as numbers
-- 0 where it records, 1 and the end state where it has that, 2 where it is stopped
unfoldable pub mode_numbers : Mode → List ℕ
mode_numbers Running = 0 ∷ []
mode_numbers (Finished e) = 1 ∷ e.threshold ∷ e.malformed ∷ []
mode_numbers Stopped = 2 ∷ []

unfoldable pub checkpoint_numbers : Checkpoint → List ℕ
checkpoint_numbers c = c.threshold ∷ c.back ∷ c.malformed ∷ c.digest ∷ []

-- first, from, the checkpoints and the mode
unfoldable pub recorder_numbers : Recorder → List ℕ
recorder_numbers r = r.first ∷ r.from ∷ length r.checkpoints ∷ mode_numbers r.mode

-- the answer to a record without a frame
abbrev pub recorded_number : Recorder → ℕ → ℕ → ℕ → ℕ
recorded_number r lsn t m = number_of (record_at ample r lsn t m None sector)

-- and with a frame under assembly
abbrev pub framed_number : ℕ → ℕ → ℕ
framed_number start number = number_of (record_at ample recording 1100 0 0 (frame_of start number 4) sector)

-- ---- the table
unfoldable pub recorders : List Example
recorders =
    -- the source's recorder: "the checkpoints past the frontier"
    example (numbers_of recorder_numbers (recorder ample three 1200)) (0 ∷ 3 ∷ 1200 ∷ 0 ∷ 0 ∷ [])
    -- "A complete index gives a stopped recorder"
    ∷ example (numbers_of recorder_numbers (recorder ample (closed three) 1200)) (0 ∷ 3 ∷ 1200 ∷ 0 ∷ 2 ∷ [])
    -- a checkpoint has the threshold, back, malformed count and digest of its sector; a is a sector of one byte here
    ∷ example (checkpoint_numbers (last_checkpoint (recorded recording 1100 5 1 (frame_of 1090 0 4) (97 ∷ [])).checkpoints))
    (5 ∷ 10 ∷ 1 ∷ 0xaf63dc4c8601ec8c ∷ [])
    -- "No frame under assembly: back 0"
    ∷ example (numbers_of part_numbers (record_at ample recording 1100 0 0 None sector)) (0 ∷ 0 ∷ 0 ∷ 0 ∷ [])
    -- "fits the budget": of 100 bytes, 100 are stored and 101 passed over
    ∷ example (numbers_of part_numbers (record_at ample recording 1100 0 0 (frame_of 1067 5 100) sector)) (0 ∷ 33 ∷ 1 ∷ 100 ∷ [])
    ∷ example (numbers_of part_numbers (record_at ample recording 1100 0 0 (frame_of 1067 5 101) sector)) (0 ∷ 33 ∷ 0 ∷ 0 ∷ [])
    -- 5: "is it the due LSN", "inside the area", "not finished or stopped", "with a sector of 2,048 bytes?"
    ∷ example (recorded_number recording 1100 0 0 ∷ recorded_number recording 1200 0 0 ∷ recorded_number all_passed 1300 75 3 ∷ []) (0 ∷ 5 ∷ 5 ∷ [])
    ∷ example (recorded_number (with_mode recording Stopped) 1100 0 0 ∷ recorded_number (with_mode all_passed (Finished (end 80 3))) 1300 75 3 ∷ []) (5 ∷ 5 ∷ [])
    ∷ example (number_of (record_at ample recording 1100 0 0 None (replicate 2047 0)) ∷ []) (5 ∷ [])
    -- 6: "do threshold (< LIM + 1) and malformed count (≤ j × interval) not fall?"
    ∷ example (recorded_number after10 1100 10 0 ∷ recorded_number after10 1100 9 0 ∷ []) (0 ∷ 6 ∷ [])
    ∷ example (recorded_number after10 1100 1166881 0 ∷ recorded_number after10 1100 1166882 0 ∷ []) (0 ∷ 6 ∷ [])
    ∷ example (recorded_number after3 1200 0 3 ∷ recorded_number after3 1200 0 2 ∷ []) (0 ∷ 6 ∷ [])
    ∷ example (recorded_number after3 1200 0 200 ∷ recorded_number after3 1200 0 201 ∷ []) (0 ∷ 6 ∷ [])
    -- "A recorder keeps these rules over its own stretch": its first checkpoint has none before it
    ∷ example (recorded_number (recorder_at 1 [] Running) 1100 0 100 ∷ recorded_number (recorder_at 1 [] Running) 1100 0 101 ∷ []) (0 ∷ 6 ∷ [])
    -- 7: "does the frame start in the area before this LSN, with number < LIM?", asked where back is 32 or less too
    ∷ example (framed_number 1000 5 ∷ framed_number 999 5 ∷ framed_number 1099 5 ∷ framed_number 1100 5 ∷ []) (0 ∷ 7 ∷ 0 ∷ 7 ∷ [])
    ∷ example (framed_number 1099 1166880 ∷ framed_number 1099 1166881 ∷ []) (0 ∷ 7 ∷ [])
    -- 5 before 6, 6 before 7
    ∷ example (recorded_number after10 1200 9 0 ∷ number_of (record_at ample after10 1100 9 0 (frame_of 999 5 4) sector) ∷ []) (5 ∷ 6 ∷ [])
    -- finish, 5: "is every boundary passed, and the recorder not finished or stopped?"
    ∷ example (numbers_of recorder_numbers (finish ample all_passed (end 75 3))) (0 ∷ 1 ∷ 1000 ∷ 2 ∷ 1 ∷ 75 ∷ 3 ∷ [])
    ∷ example
    (number_of (finish ample recording (end 75 3)) ∷ number_of (finish ample (with_mode all_passed (Finished (end 75 3))) (end 75 3))
    ∷ number_of (finish ample (with_mode all_passed Stopped) (end 75 3)) ∷ [])
    (5 ∷ 5 ∷ 5 ∷ [])
    -- finish, 6: "as an end state in loading?": from the last threshold to LIM, from the last malformed count to end − start
    ∷ example (number_of (finish ample all_passed (end 74 3)) ∷ number_of (finish ample all_passed (end 1166881 3)) ∷ number_of (finish ample all_passed (end 1166882 3)) ∷ [])
    (6 ∷ 0 ∷ 6 ∷ [])
    ∷ example (number_of (finish ample all_passed (end 75 2)) ∷ number_of (finish ample all_passed (end 75 250)) ∷ number_of (finish ample all_passed (end 75 251)) ∷ [])
    (6 ∷ 0 ∷ 6 ∷ [])
    -- "1000..1000: 0" boundaries: all are passed at once
    ∷ example (number_of (finish ample nowhere (end 0 0)) ∷ number_of (finish ample nowhere (end 0 1)) ∷ []) (0 ∷ 6 ∷ []) ∷ []
