-- What the calls on a hint recorder answer, and its table afterwards.
use Rattle.std.specs.Prelude.{ℕ, ◌/◌, List, length, Option, None, Some}
use Rattle.field.specs.Records.{bytes_of}
use Rattle.rules.specs.declared.AreaIndex.{AreaIndex}
use Rattle.rules.specs.declared.HintRecorder.{HintRecorder}
use Rattle.rules.specs.Tests.{Answer, Refused, Accepted}
use Rattle.rules.specs.Values as values
use Rattle.rules.specs.Create.{hint_recorder}
use Rattle.rules.specs.File.{encode_hint, over}
use Rattle.rules.specs.Hints.{see, flush, take_list}
use Rattle.rules.specs.Hints as rules
use Rattle.rules.specs.declared.SeenSector.{SeenSector}
use Rattle.rules.specs.declared.TakenList.{TakenList}
use Rattle.tables.specs.Index.{Tables, room_of, index_in, kinds_in, kinded}
use Rattle.tables.specs.HintRecorder.{hint_recorder_from, hint_recorder_in}

-- ---- answers, and the list's table afterwards
pub record SeenOut : Type 0 where
  pub answer : Answer HintRecorder
  pub list : List ℕ

abbrev pub seen_out : Answer HintRecorder → List ℕ → SeenOut
seen_out r t = record { answer = r; list = t }

-- a refusal changes nothing; an accepted recorder's list is put into the table
unfoldable pub seen_out_of : List ℕ → Answer values.HintRecorder → SeenOut
seen_out_of t (Refused n) = seen_out (Refused n) t
seen_out_of t (Accepted r) = seen_out (Accepted (hint_recorder_from r)) (over (bytes_of encode_hint r.list) t)

-- see: what the sector says too
pub record SawOut : Type 0 where
  pub answer : Answer SeenSector
  pub list : List ℕ

abbrev pub saw_out : Answer SeenSector → List ℕ → SawOut
saw_out r t = record { answer = r; list = t }

unfoldable pub saw_out_of : List ℕ → Answer rules.SeenSector → SawOut
saw_out_of t (Refused n) = saw_out (Refused n) t
saw_out_of t (Accepted s) =
    saw_out (Accepted (record { first = s.first; recorder = hint_recorder_from s.recorder }))
    (over (bytes_of encode_hint s.recorder.list) t)

unfoldable pub see_in : HintRecorder → List ℕ → ℕ → List ℕ → SawOut
see_in r t lsn sector = saw_out_of t (see (length t / 8) (hint_recorder_in r t) lsn sector)

unfoldable pub flush_in : HintRecorder → List ℕ → SeenOut
flush_in r t = seen_out_of t (flush (length t / 8) (hint_recorder_in r t))

unfoldable pub taken_from : Answer rules.TakenHints → Answer TakenList
taken_from (Refused n) = Refused n
taken_from (Accepted k) = Accepted (record { count = length k.list; recorder = hint_recorder_from k.recorder })

unfoldable pub take_in : HintRecorder → List ℕ → Answer TakenList
take_in r t = taken_from (take_list (length t / 8) (hint_recorder_in r t))

unfoldable pub created_from : Answer (Option values.HintRecorder) → Answer (Option HintRecorder)
created_from (Refused n) = Refused n
created_from (Accepted None) = Accepted None
created_from (Accepted (Some r)) = Accepted (Some (hint_recorder_from r))

unfoldable pub created_in : AreaIndex → Tables → Answer (Option HintRecorder)
created_in x t = created_from (kinded (kinds_in x t) (hint_recorder (room_of t) (index_in x t)))
