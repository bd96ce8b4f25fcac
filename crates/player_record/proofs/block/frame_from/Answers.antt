use borrow.Author.Tests.{eq-eqb, ne_eqb}
use mir.Syntax.{w32}
use mir.ValLaws.{to_z-of_z}
use Rattle.player_record.specs.Block.{frame_from}
use borrow.Author.Rules.{rules}
use Rattle.player_record.proofs.block.frame_from.Goals as goal

pub returns-then-mark-eq0 : goal.returns-then-mark-eq0
unfolding frame_from
returns-then-mark-eq0 c = simp (eq-eqb _ 0 c.if-mark-eq0.true)

pub returns : goal.returns
unfolding frame_from
returns c = simp (ne_eqb _ 0 c.if-mark-eq0.false, c.number_from.ensures, c.kind_from.ensures, to_z-of_z w32 c.args.remaining (search rules))
