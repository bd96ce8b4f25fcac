use mathlib.Core.List.{[]}
use mathlib.Core.Path.{refl}
use Rattle.rules_shelf.specs.Shelf.{area_of, questions}
use Rattle.shelf.specs.Steps.{list_of}
use Rattle.shelf.proofs.Laws.{asked_last}
use Rattle.shelf.proofs.enter_number.Goals as goal

pub returns : goal.returns
returns c =
    asked_last (questions c.args.shelf c.args.room (list_of c.args.a) (area_of c.args.g) []) _ 50 refl
    (rw (c.ask.ensures, c.jump_number-number.ensures))
