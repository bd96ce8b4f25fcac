use native.Mathlib.Omega.{arith}
use Rattle.drawer.proofs.ask.checkpoints_of.Goals as goal

pub overflow_add-e : goal.overflow_add-e
overflow_add-e c = omega (arith, c.requires, c.well_formed.0)
