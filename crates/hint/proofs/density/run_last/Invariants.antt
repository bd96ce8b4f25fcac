use Rattle.std.proofs.Common.{drop}
use Rattle.tables.specs.Tables.{decode_kept, kept_in}
use Rattle.tables.proofs.Rest.{Rest}
use Rattle.hint.proofs.density.Run.{run_last}
use Rattle.hint.proofs.density.run_last.Given as goal

abbrev pub invariant-loop-j : goal.invariant-loop-j
invariant-loop-j l = Rest 8 decode_kept l.n l.hints (λ hs. run_last l.h.number l.end l.last hs)
    (run_last l.h.number l.end l.h (drop l.i (kept_in l.n l.hints))) l.j
