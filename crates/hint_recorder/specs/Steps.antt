-- What the functions of a hint recorder need of each other.
use Rattle.std.specs.Prelude.{ℕ, ◌*◌, ◌/◌, ◌≤◌, ◌≡◌, cond, ◌&&◌, List, [], ltb, length, None, Option}
use Rattle.rules.specs.declared.HintRecorder.{HintRecorder}
use Rattle.field.specs.Records.{bytes_of}
use Rattle.rules.specs.declared.Hint.{Hint}
use Rattle.rules.specs.Tests.{first_no}
use Rattle.rules.specs.Values as values
use Rattle.rules.specs.Values.{max_list}
use Rattle.rules.specs.Questions.{hint_recorder_four}
use Rattle.rules.specs.File.{encode_hint, over}
use Rattle.rules.specs.Hints.{spaced, listed, tailed, flushed_list}
use Rattle.tables.specs.HintRecorder.{hint_recorder_in, hint_recorder_from}

-- without a tail
abbrev pub tailless : ℕ → Option ℕ → ℕ → HintRecorder
tailless spacing last count = record { spacing = spacing; last = last; tail = None; count = count }

-- without the list
abbrev pub emptied : HintRecorder → HintRecorder
emptied r = record { spacing = r.spacing; last = r.last; tail = r.tail; count = 0 }

-- 3 and 4: the number of the first answered no, 0 for none
unfoldable pub refusal_of : HintRecorder → List ℕ → ℕ
refusal_of r t = first_no (hint_recorder_four (length t / 8) (hint_recorder_in r t) [])

-- 3 and 4 hold
pub record Roomy (r : HintRecorder) (t : List ℕ) : Type 0 where
  pub room : max_list * 8 ≤ length t
  pub few : r.count ≤ max_list

-- the recorder v, and its list put into the table
pub record Steps (r : HintRecorder) (v : values.HintRecorder) (old new : List ℕ) : Type 0 where
  pub numbers : r ≡ hint_recorder_from v
  pub list : new ≡ over (bytes_of encode_hint v.list) old

-- the tail listed under the bound, and cleared
abbrev pub flushed_record : values.HintRecorder → values.HintRecorder
flushed_record r = record { spacing = r.spacing; last = r.last; tail = None; list = flushed_list r.tail r.list }

-- a record listed, under the bound, or made the tail
abbrev pub hint_seen : values.HintRecorder → Hint → values.HintRecorder
hint_seen r h =
    cond (spaced r.last r.spacing h.number && ltb (length r.list) max_list) (listed r h) (tailed r h)
