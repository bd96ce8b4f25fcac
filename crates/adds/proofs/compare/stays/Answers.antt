use native.Mathlib.Omega.{arith}
use Rattle.adds.proofs.compare.Passing.{stays_is}
use Rattle.adds.proofs.compare.stays.Goals as goal

pub returns-then-c-d : goal.returns-then-c-d
returns-then-c-d c = grind (arith, stays_is c.args.c c.args.d)

pub returns-else-c-d : goal.returns-else-c-d
returns-else-c-d c = grind (arith, stays_is c.args.c c.args.d)
