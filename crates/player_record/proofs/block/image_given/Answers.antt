use borrow.Author.Tests.{eq-eqb, ne_eqb}
use Rattle.blocks.specs.Blocks.{image_read}
use Rattle.player_record.proofs.block.image_given.Goals as goal

pub returns-then-mark-eq0 : goal.returns-then-mark-eq0
unfolding image_read
returns-then-mark-eq0 c = simp (eq-eqb _ 0 c.if-mark-eq0.true)

pub returns : goal.returns
unfolding image_read
returns c = simp (ne_eqb _ 0 c.if-mark-eq0.false)
