use Rattle.shelf.proofs.Laws.{entered_stands}
use Rattle.shelf.proofs.entered.Goals as goal

pub returns : goal.returns
returns c =
    entered_stands c.args.a _ _ _ c.without-others.ensures c.make_room-staying.ensures c.stamped.ensures
    c.pushed.ensures
