-- What the calls on a recorder answer, and its tables afterwards.
use Rattle.std.specs.Prelude.{ℕ, ◌+◌, List, Bool, true, cond, ◌&&◌, ltb, Option, None, Some}
use Rattle.rules.specs.declared.AreaIndex.{AreaIndex}
use Rattle.rules.specs.declared.EndState.{EndState}
use Rattle.rules.specs.declared.Recorder.{Recorder}
use Rattle.rules.specs.Tests.{Answer, Refused, Accepted}
use Rattle.rules.specs.Values as values
use Rattle.rules.specs.Create.{recorder}
use Rattle.rules.specs.Record.{finish, record_at, is_running}
use Rattle.tables.specs.Index.{Tables, room_of, index_in, kinds_in, kinded}
use Rattle.rules.specs.declared.Area.{Area}
use Rattle.rules.specs.declared.Mode.{Mode}
use Rattle.rules.specs.Questions.{area_ok, numbers_ok}
use Rattle.rules.specs.Values.{boundaries, lsn_of}
use Rattle.rules.specs.declared.Assembling as under
use Rattle.tables.specs.Recorder.{RecorderTables, recorder_from, recorder_in, recorder_kinds, recorder_room, recorder_over, assembling_in}

-- ---- answers
-- the answer's numbers
unfoldable pub recorder_of : Answer values.Recorder → Answer Recorder
recorder_of (Refused n) = Refused n
recorder_of (Accepted r) = Accepted (recorder_from r)

-- the recorder that an index gives
unfoldable pub started_in : AreaIndex → Tables → ℕ → Answer Recorder
started_in x t from = recorder_of (kinded (kinds_in x t) (recorder (room_of t) (index_in x t) from))

unfoldable pub finished_in : Recorder → RecorderTables → EndState → Answer Recorder
finished_in r t e = recorder_of (kinded (recorder_kinds r t) (finish (recorder_room t) (recorder_in r t) e))

-- the answer and the tables
pub record RecorderOut : Type 0 where
  pub answer : Answer Recorder
  pub tables : RecorderTables

abbrev pub recorder_out : Answer Recorder → RecorderTables → RecorderOut
recorder_out q t = record { answer = q; tables = t }

-- a refusal changes no table; an accepted recorder is put into them
unfoldable pub record_out : RecorderTables → Answer values.Recorder → RecorderOut
record_out t (Refused n) = recorder_out (Refused n) t
record_out t (Accepted r) = recorder_out (Accepted (recorder_from r)) (recorder_over r t)

unfoldable pub record_in : Recorder → RecorderTables → ℕ → ℕ → ℕ → Option under.Assembling → List ℕ → List ℕ → RecorderOut
record_in r t lsn threshold malformed f b sector =
    record_out t (kinded (recorder_kinds r t) (record_at (recorder_room t) (recorder_in r t) lsn threshold malformed (assembling_in f b) sector))

-- 1 and 2, then boundary number j, where it is wanted and the area has so many
unfoldable pub boundary_at : Area → ℕ → ℕ → ℕ → Bool → Answer (Option ℕ)
boundary_at a k budget j wanted =
    cond (area_ok a)
    (cond (numbers_ok k budget) (cond (wanted && ltb j (boundaries a k)) (Accepted (Some (lsn_of a k j))) (Accepted None)) (Refused 2)) (Refused 1)

-- the LSN of checkpoint number j
abbrev pub checkpoint_lsn : AreaIndex → ℕ → Answer (Option ℕ)
checkpoint_lsn x j = boundary_at x.area x.interval x.budget j true

-- the LSN that 5 asks for; none where every boundary is passed, or the recorder is finished or stopped
abbrev pub due_at : Recorder → Answer (Option ℕ)
due_at r = boundary_at r.area r.interval r.budget (r.first + r.checkpoints) (is_running r.mode)

-- with another mode
unfoldable pub mode_of : Recorder → Mode → Recorder
mode_of r m =
    record {
      area = r.area;
      interval = r.interval;
      budget = r.budget;
      first = r.first;
      from = r.from;
      checkpoints = r.checkpoints;
      frames = r.frames;
      parts = r.parts;
      mode = m;
    }
