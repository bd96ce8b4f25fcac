-- Recorders and hint recorders in their lent tables: what passes their questions, and what the types of the tables say.
use Rattle.std.specs.Prelude.{ℕ, ◌/◌, ◌<◌, ◌≤◌, ◌≡◌, true, List, length, Option, None, Some}
use Rattle.std.specs.Int.Signed.{mag}
use Rattle.field.specs.Records.{Bytes}
use Rattle.rules.specs.declared.HintRecorder.{HintRecorder}
use Rattle.rules.specs.declared.Recorder.{Recorder}
use Rattle.rules.specs.Values.{max_list}
use Rattle.rules.specs.Questions.{recorder_question1, recorder_question2, recorder_question4}
use Rattle.rules.specs.declared.Assembling as under
use Rattle.tables.specs.Recorder.{RecorderTables, recorder_room, recorder_in, recorder_kinds}
use Rattle.tables.specs.HintRecorder.{hint_recorder_in}
use Rattle.theorems.specs.Terms.{ValidRecorder, ValidHintRecorder}

-- ---- 1 to 4 of a recorder in its tables, its parts' kinds among them
pub record ValidRecorderIn (r : Recorder) (u : RecorderTables) : Type 0 where
  pub valid : ValidRecorder (recorder_room u) (recorder_in r u)
  pub kinds : recorder_kinds r u ≡ true

-- 1, 2 and 4
pub record StandsRecorder (r : Recorder) (u : RecorderTables) : Type 0 where
  pub one : recorder_question1 (recorder_in r u) ≡ true
  pub two : recorder_question2 (recorder_in r u) ≡ true
  pub four : recorder_question4 (recorder_in r u) ≡ true
  pub kinds : recorder_kinds r u ≡ true

-- its tables are bytes
pub record RecorderBytes (u : RecorderTables) : Type 0 where
  pub checkpoints : Bytes u.checkpoints
  pub frames : Bytes u.frames
  pub store : Bytes u.store
  pub parts : Bytes u.parts

-- the remaining of a frame under assembly is a signed number of 32 bits
abbrev pub SignedIn : Option under.Assembling → Type 0
SignedIn None = Unit {0}
SignedIn (Some f) = mag f.remaining < 2147483648

-- ---- 3 and 4 of a hint recorder in its table
abbrev pub ValidHintRecorderIn : HintRecorder → List ℕ → Type 0
ValidHintRecorderIn r t = ValidHintRecorder (length t / 8) (hint_recorder_in r t)

-- 4: 1 and 2 are not asked of it
abbrev pub StandsHintRecorder : HintRecorder → List ℕ → Type 0
StandsHintRecorder r t = length (hint_recorder_in r t).list ≤ max_list
