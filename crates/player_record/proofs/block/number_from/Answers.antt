use borrow.Author.Tests.{le-leb, lt-leb}
use Rattle.player_record.specs.Block.{number_from}
use Rattle.player_record.proofs.block.number_from.Goals as goal

pub returns-then-kind-le1 : goal.returns-then-kind-le1
unfolding number_from
returns-then-kind-le1 c = simp (le-leb _ 1 c.if-kind-le1.true)

pub returns : goal.returns
unfolding number_from
returns c = simp (lt-leb _ 1 c.if-kind-le1.false)
