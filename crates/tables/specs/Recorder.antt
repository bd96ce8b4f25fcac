-- How the numbers of a recorder and its four lent tables stand for its value.
use Rattle.std.specs.Prelude.{ℕ, ◌/◌, Bool, List, [], length, Option, None, Some}
use Rattle.field.specs.Records.{bytes_of}
use Rattle.rules.specs.declared.Recorder.{Recorder}
use Rattle.rules.specs.Tests.{first_no}
use Rattle.rules.specs.Values.{Lengths}
use Rattle.rules.specs.Values as values
use Rattle.rules.specs.Questions.{recorder_four}
use Rattle.rules.specs.File.{encode_checkpoint, encode_frame_header, encode_held, over}
use Rattle.rules.specs.Record.{Assembling}
use Rattle.rules.specs.declared.Assembling as under
use Rattle.tables.specs.Tables.{checkpoints_in, frames_in, parts_in}
use Rattle.tables.specs.Index.{kinds_ok, kinded_number, store_of}

-- the bytes of the four tables
pub record RecorderTables : Type 0 where
  pub checkpoints : List ℕ
  pub frames : List ℕ
  pub store : List ℕ
  pub parts : List ℕ

abbrev pub recorder_tables : List ℕ → List ℕ → List ℕ → List ℕ → RecorderTables
recorder_tables a b c d = record { checkpoints = a; frames = b; store = c; parts = d }

-- how many records each has space for; a recorder has no other tables
abbrev pub recorder_room : RecorderTables → Lengths
recorder_room t =
    record {
      checkpoints = length t.checkpoints / 24;
      frames = length t.frames / 8;
      store = length t.store;
      parts = length t.parts / 24;
      malformed = 0;
      hints = 0;
      confirmed = 0;
    }

-- the value that numbers and tables stand for
abbrev pub recorder_in : Recorder → RecorderTables → values.Recorder
recorder_in r t =
    record {
      area = r.area;
      interval = r.interval;
      budget = r.budget;
      first = r.first;
      from = r.from;
      checkpoints = checkpoints_in r.checkpoints t.checkpoints;
      frames = frames_in r.frames t.frames t.store;
      parts = parts_in r.parts t.parts;
      mode = r.mode;
    }

abbrev pub recorder_kinds : Recorder → RecorderTables → Bool
recorder_kinds r t = kinds_ok r.parts t.parts

-- 1 to 4: the number of the first answered no, 0 for none
unfoldable pub recorder_refusal : Recorder → RecorderTables → ℕ
recorder_refusal r t = kinded_number (recorder_kinds r t) (first_no (recorder_four (recorder_room t) (recorder_in r t) []))

-- ---- the numbers and tables of a value
abbrev pub recorder_from : values.Recorder → Recorder
recorder_from r =
    record {
      area = r.area;
      interval = r.interval;
      budget = r.budget;
      first = r.first;
      from = r.from;
      checkpoints = length r.checkpoints;
      frames = length r.frames;
      parts = length r.parts;
      mode = r.mode;
    }

-- past its lists the tables stay
abbrev pub recorder_over : values.Recorder → RecorderTables → RecorderTables
recorder_over r t =
    record {
      checkpoints = over (bytes_of encode_checkpoint r.checkpoints) t.checkpoints;
      frames = over (bytes_of encode_frame_header r.frames) t.frames;
      store = over (store_of r.frames) t.store;
      parts = over (bytes_of encode_held r.parts) t.parts;
    }

-- a frame under assembly with its bytes
unfoldable pub assembling_in : Option under.Assembling → List ℕ → Option Assembling
assembling_in None b = None
assembling_in (Some a) b = Some (record { start = a.start; number = a.number; kind = a.kind; remaining = a.remaining; bytes = b })
