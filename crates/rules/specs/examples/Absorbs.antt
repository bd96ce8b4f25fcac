-- Examples of absorb.
use Rattle.std.specs.Prelude.{ℕ, cond, List, [], ◌∷◌, ◌++◌, pos, length, replicate, Option, None, Some}
use Rattle.rules.specs.declared.Checkpoint.{Checkpoint}
use Rattle.rules.specs.declared.Fingerprint.TheVariants.{Unknown}
use Rattle.rules.specs.declared.FrameKind.TheVariants.{Dst}
use Rattle.rules.specs.declared.Mode.TheVariants.{Running, Finished, Stopped}
use Rattle.rules.specs.Values.{Index, Recorder, used, complete, last_checkpoint}
use Rattle.rules.specs.Record.{with_mode, Absorbed, absorb}
use Rattle.rules.specs.examples.Starred.{ample, area, checkpoint, index_of, three, first, empty, closed, known_numbers, Example, example}
use Rattle.rules.specs.examples.Recorders.{recorder_at, end, mode_numbers}

-- ---- values
-- a checkpoint with another back and digest
abbrev pub otherwise : ℕ → ℕ → Checkpoint
otherwise t m = record { threshold = t; back = 5; malformed = m; digest = 8 }

-- the first two of three's checkpoints
abbrev pub two : Index
two = index_of (area 1000 1250) 100 (checkpoint 0 0 0 ∷ checkpoint 0 0 0 ∷ []) None Unknown 2048 [] []

-- two checkpoints, the last with threshold 75
abbrev pub to75 : Index
to75 = index_of (area 1000 1250) 100 (checkpoint 0 0 0 ∷ checkpoint 75 0 0 ∷ []) None Unknown 2048 [] []

-- with an image id
abbrev pub of_image : ℕ → Index → Index
of_image v x = record { scan = x.scan; hinting = x.hinting; fingerprint = x.fingerprint; image = Some v }

-- with a malformed count of 1, and the malformed LSN 1050
abbrev pub malformed1 : Index
malformed1 =
    record {
      scan =
          record {
            area = area 1000 1250;
            interval = 100;
            budget = 100;
            checkpoints = checkpoint 0 0 0 ∷ checkpoint 0 0 1 ∷ [];
            frames = [];
            parts = [];
            ending = None;
            malformed = 1050 ∷ [];
          };
      hinting = two.hinting;
      fingerprint = Unknown;
      image = None;
    }

-- a recorder of checkpoints 1 and 2; the second has a part of these bytes
abbrev pub bringing : ℕ → List ℕ → Recorder
bringing budget bytes =
    record {
      area = area 1000 1250;
      interval = 100;
      budget = budget;
      first = 1;
      from = 1000;
      checkpoints = checkpoint 0 0 0 ∷ checkpoint 75 33 0 ∷ [];
      frames = record { start = 1167; bytes = bytes } ∷ [];
      parts = record { at = 2; frame = 0; len = length bytes; number = 5; kind = Dst; remaining = pos 0 } ∷ [];
      mode = Running;
    }

-- with another start of its reading, or interval
abbrev pub started_at : ℕ → ℕ → Recorder → Recorder
started_at from k r =
    record {
      area = r.area;
      interval = k;
      budget = r.budget;
      first = r.first;
      from = from;
      checkpoints = r.checkpoints;
      frames = r.frames;
      parts = r.parts;
      mode = r.mode;
    }

-- recorders that began with checkpoint 1 and with checkpoint 2
abbrev pub from1 : List Checkpoint → Recorder
from1 cs = recorder_at 1 cs Running

abbrev pub from2 : List Checkpoint → Recorder
from2 cs = recorder_at 2 cs Running

-- ---- answers as numbers
-- the refusal number; checkpoints, completeness, the last threshold and digest, parts and their bytes, the image id and the malformed LSNs of the
-- index; first, checkpoints and mode of the recorder
unfoldable pub absorbed_numbers : Absorbed → List ℕ
absorbed_numbers a =
    a.number ∷ length a.index.scan.checkpoints ∷ cond (complete a.index.scan) 1 0 ∷ (last_checkpoint a.index.scan.checkpoints).threshold
    ∷ (last_checkpoint a.index.scan.checkpoints).digest ∷ length a.index.scan.parts ∷ used a.index.scan.frames
    ∷ (known_numbers a.index.image
    ++ (a.index.scan.malformed ++ (a.recorder.first ∷ length a.recorder.checkpoints ∷ mode_numbers a.recorder.mode)))

abbrev pub absorbed : Index → Recorder → Option ℕ → List ℕ → List ℕ
absorbed x r image ms = absorbed_numbers (absorb ample x ample r image ms)

abbrev pub absorbed_number : Index → Recorder → List ℕ → ℕ
absorbed_number x r ms = (absorb ample x ample r None ms).number

-- ---- the table
unfoldable pub absorbs : List Example
absorbs =
    -- "absorb .. then empties the recorder": it goes on with the next checkpoint
    example (absorbed first (from1 (checkpoint 0 0 0 ∷ checkpoint 75 0 0 ∷ [])) None [])
    (0 ∷ 3 ∷ 0 ∷ 75 ∷ 7 ∷ 0 ∷ 0 ∷ 0 ∷ 3 ∷ 0 ∷ 0 ∷ [])
    -- "and stops a finished one"; the end state is taken
    ∷ example (absorbed first (recorder_at 1 (checkpoint 0 0 0 ∷ checkpoint 75 0 0 ∷ []) (Finished (end 80 0))) None [])
    (0 ∷ 3 ∷ 1 ∷ 75 ∷ 7 ∷ 0 ∷ 0 ∷ 0 ∷ 3 ∷ 0 ∷ 2 ∷ [])
    -- a recorder that overlaps the index brings the checkpoints past its frontier
    ∷ example (absorbed two (from1 (checkpoint 0 0 0 ∷ checkpoint 75 0 0 ∷ [])) None []) (0 ∷ 3 ∷ 0 ∷ 75 ∷ 7 ∷ 0 ∷ 0 ∷ 0 ∷ 3 ∷ 0 ∷ 0 ∷ [])
    -- "Mistakes that tempt: comparing digests in absorb"; the index keeps its own
    ∷ example (absorbed three (from1 (otherwise 0 0 ∷ otherwise 75 0 ∷ [])) None []) (0 ∷ 3 ∷ 0 ∷ 75 ∷ 7 ∷ 0 ∷ 0 ∷ 0 ∷ 3 ∷ 0 ∷ 0 ∷ [])
    -- "a stopped recorder brings nothing and is no refusal after 4": no image id either
    ∷ example (absorbed first (with_mode (from1 (checkpoint 0 0 0 ∷ [])) Stopped) (Some 6) []) (0 ∷ 1 ∷ 0 ∷ 0 ∷ 7 ∷ 0 ∷ 0 ∷ 0 ∷ 1 ∷ 1 ∷ 2 ∷ [])
    ∷ example (absorbed (of_image 5 first) (with_mode (from1 []) Stopped) (Some 6) []) (0 ∷ 1 ∷ 0 ∷ 0 ∷ 7 ∷ 0 ∷ 0 ∷ 1 ∷ 5 ∷ 1 ∷ 0 ∷ 2 ∷ [])
    -- "Absorbing fills in the image id too"
    ∷ example (absorbed first (from1 []) (Some 6) []) (0 ∷ 1 ∷ 0 ∷ 0 ∷ 7 ∷ 0 ∷ 0 ∷ 1 ∷ 6 ∷ 1 ∷ 0 ∷ 0 ∷ [])
    ∷ example (absorbed (of_image 5 first) (from1 []) None []) (0 ∷ 1 ∷ 0 ∷ 0 ∷ 7 ∷ 0 ∷ 0 ∷ 1 ∷ 5 ∷ 1 ∷ 0 ∷ 0 ∷ [])
    -- 8: "same image, if both known?"; 8 alone stops the recorder, and what it holds stays
    ∷ example (absorbed (of_image 5 first) (from1 (checkpoint 0 0 0 ∷ [])) (Some 6) []) (8 ∷ 1 ∷ 0 ∷ 0 ∷ 7 ∷ 0 ∷ 0 ∷ 1 ∷ 5 ∷ 1 ∷ 1 ∷ 2 ∷ [])
    -- 9: "same area and interval?"; nothing changes
    ∷ example (absorbed first (started_at 1000 50 (from1 (checkpoint 0 0 0 ∷ []))) (Some 6) []) (9 ∷ 1 ∷ 0 ∷ 0 ∷ 7 ∷ 0 ∷ 0 ∷ 0 ∷ 1 ∷ 1 ∷ 0 ∷ [])
    -- 10: "recorder joins the index?": it started at most at the frontier, and at most at the next checkpoint
    ∷ example (absorbed_number two (started_at 1100 100 (from2 [])) [] ∷ absorbed_number two (started_at 1101 100 (from2 [])) [] ∷ absorbed_number first (from2 []) [] ∷ [])
    (0 ∷ 10 ∷ 10 ∷ [])
    -- 11: "thresholds, malformed counts and end state agree where both have them?"
    ∷ example (absorbed_number three (from2 (checkpoint 74 0 0 ∷ [])) [] ∷ absorbed_number three (from2 (checkpoint 75 0 1 ∷ [])) [] ∷ []) (11 ∷ 11 ∷ [])
    ∷ example
    (absorbed_number (closed three) (recorder_at 3 [] (Finished (end 80 0))) [] ∷ absorbed_number (closed three) (recorder_at 3 [] (Finished (end 81 0))) [] ∷ [])
    (0 ∷ 11 ∷ [])
    -- 12: "if the frontier moves, do the rules of 4 hold afterwards": a threshold falls where the recorder joins
    ∷ example (absorbed three (recorder_at 3 [] (Finished (end 74 0))) None []) (12 ∷ 3 ∷ 0 ∷ 75 ∷ 7 ∷ 0 ∷ 0 ∷ 0 ∷ 3 ∷ 0 ∷ 1 ∷ 74 ∷ 0 ∷ [])
    ∷ example (absorbed_number to75 (from2 (checkpoint 75 0 0 ∷ [])) [] ∷ absorbed_number to75 (from2 (checkpoint 74 0 0 ∷ [])) [] ∷ []) (0 ∷ 12 ∷ [])
    -- 12: "is the malformed list rising, opening with the held one, with min(counted, 4,096) LSNs below the frontier, capped so?"
    ∷ example (absorbed malformed1 (from2 (checkpoint 0 0 2 ∷ [])) None (1050 ∷ 1150 ∷ 1210 ∷ []))
    (0 ∷ 3 ∷ 0 ∷ 0 ∷ 7 ∷ 0 ∷ 0 ∷ 0 ∷ 1050 ∷ 1150 ∷ 3 ∷ 0 ∷ 0 ∷ [])
    ∷ example
    (absorbed_number malformed1 (from2 (checkpoint 0 0 2 ∷ [])) (1050 ∷ 1050 ∷ []) ∷ absorbed_number malformed1 (from2 (checkpoint 0 0 2 ∷ [])) (1051 ∷ 1150 ∷ [])
    ∷ absorbed_number malformed1 (from2 (checkpoint 0 0 2 ∷ [])) (1050 ∷ 1200 ∷ []) ∷ [])
    (12 ∷ 12 ∷ 12 ∷ [])
    -- no checkpoint and one have the same frontier: 12 is not asked, and the given list is not looked at
    ∷ example (absorbed empty (recorder_at 0 (checkpoint 0 0 0 ∷ []) Running) None (3 ∷ 2 ∷ [])) (0 ∷ 1 ∷ 0 ∷ 0 ∷ 7 ∷ 0 ∷ 0 ∷ 0 ∷ 1 ∷ 0 ∷ 0 ∷ [])
    -- a recorder's part is stored under the index's budget of 100, whatever its own is
    ∷ example (absorbed first (bringing 1000 (1 ∷ 2 ∷ [])) None []) (0 ∷ 3 ∷ 0 ∷ 75 ∷ 7 ∷ 1 ∷ 2 ∷ 0 ∷ 3 ∷ 0 ∷ 0 ∷ [])
    ∷ example (absorbed first (bringing 1000 (replicate 101 0)) None []) (0 ∷ 3 ∷ 0 ∷ 75 ∷ 7 ∷ 0 ∷ 0 ∷ 0 ∷ 3 ∷ 0 ∷ 0 ∷ []) ∷ []
