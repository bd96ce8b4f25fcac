-- What hint answers: the call of the rules on the list that the tables hold.
use Rattle.std.specs.Prelude.{ℕ, Option, None, Some}
use Rattle.rules.specs.declared.AreaIndex.{AreaIndex}
use Rattle.rules.specs.declared.Hinted.{Hinted}
use Rattle.rules_jump.specs.declared.NamedHint as declared
use Rattle.rules.specs.Tests.{Answer, Refused, Accepted}
use Rattle.rules.specs.Hints as rules
use Rattle.rules_jump.specs.Names as names
use Rattle.tables.specs.Index.{Tables, room_of, index_in, kinds_in, kinded}

abbrev pub hinted_of : Hinted → rules.Hinted
hinted_of h = record { lsn = h.lsn; number = h.number; upper = h.upper; later = h.later }

abbrev pub named_of : declared.NamedHint → names.NamedHint
named_of h = record { hinted = hinted_of h.hint; start = h.start; end = h.end }

abbrev pub read_of : Option declared.NamedHint → Option names.NamedHint
read_of None = None
read_of (Some h) = Some (named_of h)

-- the answer of the rules that an answer of the code stands for
unfoldable pub answer_of : Answer (Option declared.NamedHint) → Answer (Option names.NamedHint)
answer_of (Refused n) = Refused n
answer_of (Accepted h) = Accepted (read_of h)

unfoldable pub hint_in : AreaIndex → Tables → ℕ → ℕ → ℕ → Answer (Option names.NamedHint)
hint_in x t first end playtime = kinded (kinds_in x t) (names.named_hint (room_of t) (index_in x t) first end playtime)
