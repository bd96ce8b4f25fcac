use mathlib.Core.Path.{◌≡◌}
use lib.ListN.{length}
use Rattle.tables.specs.Tables.{kept_in}
use Rattle.thin.proofs.Steps.{Pass}
use Rattle.thin.proofs.close_up.Given as goal

abbrev pub invariant-loop-i : goal.invariant-loop-i
invariant-loop-i l = (length l.t ≡ length l.initial.t) × Pass (kept_in l.n l.initial.t) l.cut l.initial.t l.t l.p l.i
