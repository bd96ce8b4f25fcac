use Rattle.absorb.proofs.questions.Twelve.{stays, moves_on, started, end_is}
use mathlib.Core.Path.{refl}
use Rattle.absorb.proofs.questions.question12.Goals as goal

pub frontier_of-before-requires : goal.frontier_of-before-requires
frontier_of-before-requires c = (started _ c.requires.area).1

pub frontier_of-front-requires : goal.frontier_of-front-requires
frontier_of-front-requires c = (started _ c.requires.area).1

pub returns-then-front-before : goal.returns-then-front-before
returns-then-front-before c =
    stays _ _ _ _ _ _ refl (end_is _ c.end_of.ensures c.or-end.ensures) (rw c.saturating_sub.ensures)
    c.frontier_of-before.ensures c.frontier_of-front.ensures c.if-front-before.true

pub moved_ok-requires : goal.moved_ok-requires
moved_ok-requires c = c.requires

pub returns-else-front-before : goal.returns-else-front-before
returns-else-front-before c =
    moves_on _ _ _ _ _ _ refl (end_is _ c.end_of.ensures c.or-end.ensures) (rw c.saturating_sub.ensures)
    c.frontier_of-before.ensures c.frontier_of-front.ensures c.if-front-before.false c.moved_ok.ensures
