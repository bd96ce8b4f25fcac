use Rattle.drawer.specs.Turns.{numbers_after}
use Rattle.drawer.proofs.numbers_after.Goals as goal

pub returns-in-Refused : goal.returns-in-Refused
unfolding numbers_after
returns-in-Refused c = rw c.in-Refused.is

pub returns-in-Index : goal.returns-in-Index
unfolding numbers_after
returns-in-Index c = rw c.in-Index.is
