use mathlib.Core.Path.{sym}
use Rattle.rules.specs.Values.{boundaries}
use Rattle.sections.proofs.Questions.{ordered, none_by_zero}
use borrow.Author.Rules.{rules}
use Rattle.sections.proofs.area_boundaries.Goals as goal

pub returns-then-interval-eq0 : goal.returns-then-interval-eq0
returns-then-interval-eq0 c = rw c.if-interval-eq0.true (sym (none_by_zero _))

pub boundaries-requires : goal.boundaries-requires
boundaries-requires c = let o = ordered _ c.requires in search rules

pub returns : goal.returns
unfolding boundaries
returns c = c.boundaries.ensures.0
