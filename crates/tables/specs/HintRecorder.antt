-- How the numbers of a hint recorder and its lent table stand for its value.
use Rattle.std.specs.Prelude.{ℕ, List, length}
use Rattle.rules.specs.declared.HintRecorder.{HintRecorder}
use Rattle.rules.specs.Values as values
use Rattle.tables.specs.Tables.{hints_in}

-- ---- the value that numbers and the table stand for
abbrev pub hint_recorder_in : HintRecorder → List ℕ → values.HintRecorder
hint_recorder_in r t =
    record { spacing = r.spacing; last = r.last; tail = r.tail; list = hints_in r.count t }

-- ---- the numbers of a value
abbrev pub hint_recorder_from : values.HintRecorder → HintRecorder
hint_recorder_from r =
    record { spacing = r.spacing; last = r.last; tail = r.tail; count = length r.list }
