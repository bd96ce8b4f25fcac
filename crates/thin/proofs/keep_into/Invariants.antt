use mathlib.Core.Path.{◌≡◌}
use lib.ListN.{length}
use Rattle.tables.specs.Tables.{kept_in}
use Rattle.thin.proofs.Steps.{Pass}
use Rattle.thin.proofs.keep_into.Given as goal

abbrev pub invariant-loop-i : goal.invariant-loop-i
invariant-loop-i l = (length l.dst ≡ length l.initial.dst) × Pass (kept_in l.n l.src) l.cut l.initial.dst l.dst l.p l.i
