use Rattle.rules_shelf.specs.Shelf.{area_of}
use Rattle.shelf.proofs.Laws.{Seeking}
use Rattle.shelf.proofs.place_from.Given as goal

abbrev pub invariant-loop-i : goal.invariant-loop-i
invariant-loop-i l = Seeking l.a (area_of l.g) l.from l.i
