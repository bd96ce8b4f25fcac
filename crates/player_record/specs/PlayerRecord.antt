-- What the calls for C answer on recorders and hints.
use Rattle.std.specs.Prelude.{ℕ, List, Option}
use Rattle.rules.specs.declared.EndState.{EndState}
use Rattle.rules.specs.declared.Confirmation.{Confirmation}
use Rattle.rules.specs.Tests.{number_of, Answer}
use Rattle.rules.specs.declared.Assembling as under
use Rattle.rules.specs.declared.Recorder.{Recorder}
use Rattle.blocks.specs.Blocks.{recorder_words, hint_recorder_words, is_index, is_recorder, is_hint_recorder}
use Rattle.tables.specs.Index.{Tables, frontier_in}
use Rattle.tables.specs.Recorder.{RecorderTables}
use Rattle.recorder.specs.Recorder.{started_in, finished_in, record_in, due_at, checkpoint_lsn}
use Rattle.absorb.specs.Absorb.{absorb_in}
use Rattle.blocks.specs.Calls.{Called, called, into, in_block, in_head, head_index, head_recorder, head_hint_recorder}
use Rattle.player_record.specs.Block.{CalledBoth, called_both, absorbed_into, lsn_words, boundary_words, sector_words, created_words, hint_words, taken_into, kept_into}
use Rattle.index.specs.Index.{made_of}
use Rattle.hint.specs.Hint.{hint_in}
use Rattle.hint_recorder.specs.HintRecorder.{SeenOut, SawOut, created_in, see_in, flush_in, take_in}
use Rattle.confirmations.specs.Confirmations.{keep_in}
use Rattle.keep_hint.specs.KeepHint.{keep_hint_in}

abbrev pub end_state : ℕ → ℕ → EndState
end_state threshold malformed = record { threshold = threshold; malformed = malformed }

-- a recorder into its block
abbrev pub recorded_into : List ℕ → Answer Recorder → Called
recorded_into block r = into recorder_words block r

-- with the recorder's tables, where they are written
pub record CalledFour : Type 0 where
  pub call : Called
  pub tables : RecorderTables

abbrev pub with_four : Called → RecorderTables → CalledFour
with_four c t = record { call = c; tables = t }

abbrev pub called_four : ℕ → List ℕ → RecorderTables → CalledFour
called_four n b t = with_four (called n b) t

-- the block is the recorder's
unfoldable pub recorder_call : List ℕ → ℕ → List ℕ → Tables → Called
recorder_call head from block t =
    in_head (is_index head) (called 3 block) (in_block block (called 3 block) (recorded_into block (started_in (head_index head) t from)))

unfoldable pub record_call : List ℕ → ℕ → ℕ → ℕ → Option under.Assembling → List ℕ → List ℕ → RecorderTables → CalledFour
record_call block lsn threshold malformed f bytes sector t =
    let o = record_in (head_recorder block) t lsn threshold malformed f bytes sector in
    in_head (is_recorder block) (called_four 3 block t) (with_four (recorded_into block o.answer) o.tables)

unfoldable pub finish_call : List ℕ → EndState → RecorderTables → Called
finish_call block e t = in_head (is_recorder block) (called 3 block) (recorded_into block (finished_in (head_recorder block) t e))

-- ---- boundaries; the block is the answer's
-- the due LSN of a recorder
unfoldable pub due_call : List ℕ → List ℕ → Called
due_call block answer =
    in_head (is_recorder block) (called 3 answer) (in_block answer (called 3 answer) (into boundary_words answer (due_at (head_recorder block))))

-- the LSN of a list's checkpoint by its number
unfoldable pub boundary_call : List ℕ → ℕ → List ℕ → Called
boundary_call head j answer =
    in_head (is_index head) (called 3 answer) (in_block answer (called 3 answer) (into boundary_words answer (checkpoint_lsn (head_index head) j)))

-- how far a list reaches
unfoldable pub frontier_call : List ℕ → List ℕ → Called
frontier_call head answer =
    in_head (is_index head) (called 3 answer) (in_block answer (called 3 answer) (into lsn_words answer (frontier_in (head_index head))))

-- ---- absorb
-- the head, the recorder's block, and the list's tables; the recorder's are only read
pub record CalledAbsorbed : Type 0 where
  pub call : CalledBoth
  pub tables : Tables

abbrev pub with_absorbed : CalledBoth → Tables → CalledAbsorbed
with_absorbed c t = record { call = c; tables = t }

abbrev pub called_absorbed : ℕ → List ℕ → List ℕ → Tables → CalledAbsorbed
called_absorbed n head b t = with_absorbed (called_both n head b) t

unfoldable pub absorb_call : List ℕ → List ℕ → Option ℕ → List ℕ → Tables → RecorderTables → CalledAbsorbed
absorb_call head block image given t u =
    let o = absorb_in (head_index head) t image given (head_recorder block) u in
    in_head (is_index head) (called_absorbed 3 head block t)
    (in_head (is_recorder block) (called_absorbed 3 head block t) (with_absorbed (absorbed_into head block o.answer) o.tables))

-- the block is the hint recorder's
unfoldable pub hint_recorder_call : List ℕ → List ℕ → Tables → Called
hint_recorder_call head block t =
    in_head (is_index head) (called 3 block) (in_block block (called 3 block) (into created_words block (created_in (head_index head) t)))

-- with the hint recorder's list
pub record CalledList : Type 0 where
  pub call : Called
  pub list : List ℕ

abbrev pub with_list : Called → List ℕ → CalledList
with_list c t = record { call = c; list = t }

abbrev pub called_list : ℕ → List ℕ → List ℕ → CalledList
called_list n b t = with_list (called n b) t

abbrev pub seen_into : List ℕ → SeenOut → CalledList
seen_into block o = with_list (into hint_recorder_words block o.answer) o.list

-- words 7 to 10 of the block tell the sector's first record
abbrev pub saw_into : List ℕ → SawOut → CalledList
saw_into block o = with_list (into sector_words block o.answer) o.list

unfoldable pub see_call : List ℕ → ℕ → List ℕ → List ℕ → CalledList
see_call block lsn sector list = in_head (is_hint_recorder block) (called_list 3 block list) (saw_into block (see_in (head_hint_recorder block) list lsn sector))

unfoldable pub flush_call : List ℕ → List ℕ → CalledList
flush_call block list = in_head (is_hint_recorder block) (called_list 3 block list) (seen_into block (flush_in (head_hint_recorder block) list))

unfoldable pub take_call : List ℕ → List ℕ → List ℕ → CalledBoth
take_call block answer list =
    in_head (is_hint_recorder block) (called_both 3 block answer)
    (in_block answer (called_both 3 block answer) (taken_into block answer (take_in (head_hint_recorder block) list)))

-- with the tables
pub record CalledKept : Type 0 where
  pub call : CalledBoth
  pub tables : Tables

abbrev pub with_kept : CalledBoth → Tables → CalledKept
with_kept c t = record { call = c; tables = t }

abbrev pub called_kept : ℕ → List ℕ → List ℕ → Tables → CalledKept
called_kept n b a t = with_kept (called_both n b a) t

unfoldable pub keep_call : List ℕ → Confirmation → List ℕ → Tables → CalledKept
keep_call head c answer t =
    let o = keep_in (head_index head) t c in
    in_head (is_index head) (called_kept 3 head answer t)
    (in_block answer (called_kept 3 head answer t) (with_kept (kept_into head answer o.answer) o.tables))

-- a number and the tables, where no block is written
pub record CalledTables : Type 0 where
  pub number : ℕ
  pub tables : Tables

abbrev pub called_tables : ℕ → Tables → CalledTables
called_tables n t = record { number = n; tables = t }

unfoldable pub keep_hint_call : List ℕ → ℕ → Tables → CalledTables
keep_hint_call head lsn t =
    let o = keep_hint_in (head_index head) t lsn in
    in_head (is_index head) (called_tables 3 t) (called_tables (number_of (made_of o.answer)) o.tables)

-- the block is the answer's
unfoldable pub hint_call : List ℕ → ℕ → ℕ → ℕ → List ℕ → Tables → Called
hint_call head first end playtime answer t =
    in_head (is_index head) (called 3 answer)
    (in_block answer (called 3 answer) (into hint_words answer (hint_in (head_index head) t first end playtime)))
