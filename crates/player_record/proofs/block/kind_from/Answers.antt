use borrow.Author.Tests.{eq-eqb, ne_eqb}
use Rattle.player_record.specs.Block.{kind_from}
use Rattle.player_record.proofs.block.kind_from.Goals as goal

pub returns-then-kind-eq0 : goal.returns-then-kind-eq0
unfolding kind_from
returns-then-kind-eq0 c = simp (eq-eqb _ 0 c.if-kind-eq0.true)

pub returns : goal.returns
unfolding kind_from
returns c = simp (ne_eqb _ 0 c.if-kind-eq0.false)
