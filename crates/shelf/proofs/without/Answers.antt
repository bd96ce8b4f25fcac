use Rattle.shelf.proofs.Laws.{without_some, without_none}
use Rattle.shelf.proofs.without.Goals as goal

pub returns-then-i-a : goal.returns-then-i-a
returns-then-i-a c = without_some c.args.a _ c.place-i.ensures.0 c.dropped.ensures.0

pub returns-else-i-a : goal.returns-else-i-a
returns-else-i-a c = without_none _ _ c.place-i.ensures.0 c.requires c.if-i-a.false
