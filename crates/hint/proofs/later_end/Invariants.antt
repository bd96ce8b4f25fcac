use Rattle.std.proofs.Common.{drop}
use Rattle.rules.specs.Hints.{first_from}
use Rattle.tables.specs.Tables.{decode_kept, kept_in}
use Rattle.tables.proofs.Rest.{Rest}
use Rattle.hint.specs.Steps.{later_end}
use Rattle.hint.proofs.later_end.Given as goal

abbrev pub invariant-loop-j : goal.invariant-loop-j
invariant-loop-j l = Rest 8 decode_kept l.n l.hints (λ hs. later_end l.end (first_from l.end hs))
    (later_end l.end (first_from l.end (drop l.i (kept_in l.n l.hints)))) l.j
