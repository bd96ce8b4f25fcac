use mathlib.Core.Path.{◌≡◌}
use lib.ListN.{length}
use Rattle.coarsen.proofs.Copying.{Copying}
use Rattle.coarsen.proofs.copy_kept.Given as goal

abbrev pub invariant-loop-j : goal.invariant-loop-j
invariant-loop-j l = Copying l.n l.m l.r l.t l.initial.to l.j l.to × (length l.to ≡ length l.initial.to)
