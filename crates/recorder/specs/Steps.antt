-- What the functions of a recorder need of each other.
use Rattle.std.specs.Prelude.{◌≡◌, ℕ, ◌+◌, ◌*◌, ◌/◌, ◌≤◌, ◌-◌, Bool, true, cond, ◌&&◌, ◌||◌, not, List, [], ◌∷◌, eqb, leb, ltb, length, Option, None, Some}
use Rattle.rules.specs.declared.AreaIndex.{AreaIndex}
use Rattle.rules.specs.declared.Mode.TheVariants.{Running, Stopped}
use Rattle.rules.specs.declared.Recorder.{Recorder}
use Rattle.rules.specs.declared.Area.{Area}
use Rattle.rules.specs.declared.Checkpoint.{Checkpoint}
use Rattle.rules.specs.Tests.{all, is_some, ask, first_no}
use Rattle.rules.specs.Values.{boundaries, lim, lsn_of, last_checkpoint, replay_sectors}
use Rattle.rules.specs.Sections.{checkpoints_ok, ending_ok}
use Rattle.rules.specs.Questions.{area_ok, numbers_ok, held_ok, end_of, recorder_question4}
use Rattle.rules.specs.PartRule.{Stored, add_part}
use Rattle.rules.specs.Record.{Assembling, is_running}
use Rattle.rules.specs.declared.Assembling as under
use Rattle.index.specs.Index.{scan_space}
use Rattle.tables.specs.Recorder.{RecorderTables, recorder_in, recorder_kinds, recorder_refusal}
use Rattle.tables.specs.Tables.{checkpoints_in}
use Rattle.parts.specs.declared.Counts.{Counts}

-- 4 with the kind bytes
unfoldable pub recorder_held : Recorder → RecorderTables → Bool
recorder_held r t = recorder_question4 (recorder_in r t) && recorder_kinds r t

-- the counts of 4, of b boundaries
unfoldable pub stretch_counts : ℕ → ℕ → ℕ → Bool → ℕ → ℕ → Bool
stretch_counts b first n whole f h = all (leb (first + n) b ∷ (not whole || eqb (first + n) b) ∷ leb h n ∷ leb f h ∷ [])

-- its sections
unfoldable pub stretch_in : Recorder → RecorderTables → Bool
stretch_in r t =
    all (checkpoints_ok r.interval r.first (recorder_in r t).checkpoints
    ∷ held_ok r.area r.interval r.budget r.first (recorder_in r t).checkpoints (recorder_in r t).frames (recorder_in r t).parts
    ∷ ending_ok r.area (recorder_in r t).checkpoints (end_of r.mode) ∷ [])

-- 1 to 3 hold, and b is the number of boundaries
pub record Roomy (b : ℕ) (r : Recorder) (t : RecorderTables) : Type 0 where
  pub is : b ≡ boundaries r.area r.interval
  pub area : area_ok r.area ≡ true
  pub numbers : numbers_ok r.interval r.budget ≡ true
  pub room : scan_space b r.budget t.checkpoints t.frames t.store t.parts ≡ true

-- 1 and 2 hold, b is the number of boundaries, and each of three tables has space for so many records
pub record Spaced (b : ℕ) (r : Recorder) (cs fs ps : List ℕ) : Type 0 where
  pub is : b ≡ boundaries r.area r.interval
  pub area : area_ok r.area ≡ true
  pub numbers : numbers_ok r.interval r.budget ≡ true
  pub checkpoints : b ≤ length cs / 24
  pub frames : b ≤ length fs / 8
  pub parts : b ≤ length ps / 24

-- each table has the records that are counted
pub record Long (r : Recorder) (cs fs ps : List ℕ) : Type 0 where
  pub area : area_ok r.area ≡ true
  pub checkpoints : r.checkpoints * 24 ≤ length cs
  pub frames : r.frames * 8 ≤ length fs
  pub parts : r.parts * 24 ≤ length ps
  pub few : r.first + r.checkpoints ≤ 4294967295

-- the numbers of the recorder that an index gives
unfoldable pub empty_of : AreaIndex → ℕ → Recorder
empty_of x from =
    record {
      area = x.area;
      interval = x.interval;
      budget = x.budget;
      first = x.checkpoints;
      from = from;
      checkpoints = 0;
      frames = 0;
      parts = 0;
      mode = cond (is_some x.ending) Stopped Running;
    }

-- 5, 6 and 7 by numbers
unfoldable pub due_in : Recorder → ℕ → ℕ → Bool
due_in r lsn len =
    is_running r.mode && (eqb lsn (lsn_of r.area r.interval (r.first + r.checkpoints)) && (ltb lsn r.area.end && eqb len 2048))

unfoldable pub rises_in : Checkpoint → ℕ → ℕ → ℕ → ℕ → Bool
rises_in c j k threshold malformed =
    leb c.threshold threshold && (ltb threshold (lim + 1) && (leb c.malformed malformed && leb malformed (j * k)))

unfoldable pub starts_in : Area → ℕ → Option under.Assembling → Bool
starts_in a lsn None = true
starts_in a lsn (Some f) = leb a.start f.start && (ltb f.start lsn && ltb f.number lim)

-- the frame under assembly, stored for checkpoint number j where back exceeds 32
unfoldable pub assembled_in : ℕ → Stored → ℕ → ℕ → Option Assembling → Stored
assembled_in budget s j lsn None = s
assembled_in budget s j lsn (Some f) =
    cond (ltb replay_sectors (lsn - f.start))
    (add_part budget s (record { at = j; start = f.start; bytes = f.bytes; number = f.number; kind = f.kind; remaining = f.remaining })) s

-- 1 to 7: the number of the first answered no, 0 for none
unfoldable pub record_number : Recorder → RecorderTables → ℕ → ℕ → ℕ → Option under.Assembling → ℕ → ℕ
record_number r t lsn threshold malformed f len =
    cond (eqb (recorder_refusal r t) 0)
    (first_no
    (ask (due_in r lsn len) 5
    ∷ ask (rises_in (last_checkpoint (checkpoints_in r.checkpoints t.checkpoints)) (r.first + r.checkpoints) r.interval threshold malformed) 6
    ∷ ask (starts_in r.area lsn f) 7 ∷ []))
    (recorder_refusal r t)

-- one checkpoint more, and the frames and parts that are counted
unfoldable pub advanced_of : Recorder → Counts → Recorder
advanced_of r c =
    record {
      area = r.area;
      interval = r.interval;
      budget = r.budget;
      first = r.first;
      from = r.from;
      checkpoints = r.checkpoints + 1;
      frames = c.frames;
      parts = c.parts;
      mode = r.mode;
    }
