use mathlib.Core.Path.{refl}
use Rattle.sections.proofs.Questions.{asked_all}
use Rattle.shelf.proofs.jump_number.Goals as goal

pub returns : goal.returns
returns c =
    asked_all _ refl
    (rw (c.ask.ensures, c.ask-four.ensures, c.ask-three.ensures)
    (rw (c.ask-one.ensures, c.area_ok.ensures, c.shelf_ok.ensures)))
