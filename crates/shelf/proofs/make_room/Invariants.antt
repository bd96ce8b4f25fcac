use Rattle.shelf.proofs.Laws.{Making}
use Rattle.shelf.proofs.make_room.Given as goal

abbrev pub invariant-loop-b : goal.invariant-loop-b
invariant-loop-b l = Making l.initial.b l.room l.b

abbrev pub decreases-loop-b : goal.decreases-loop-b
decreases-loop-b l = l.b.n
