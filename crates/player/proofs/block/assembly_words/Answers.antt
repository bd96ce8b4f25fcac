use mathlib.Core.Path.{ap, ◌∙◌}
use mir.Syntax.{w32}
use mir.ValLaws.{to_z-of_z}
use Rattle.rules.specs.File.{unsigned32}
use Rattle.player.specs.Block.{assembly_words}
use borrow.Author.Rules.{rules}
use Rattle.player.proofs.block.assembly_words.Goals as goal

pub returns-in-None : goal.returns-in-None
unfolding assembly_words
returns-in-None c = rw c.in-None.is

pub returns-in-Some : goal.returns-in-Some
unfolding assembly_words
returns-in-Some c =
    rw (
      c.in-Some.is,
      c.kind_number.ensures,
      c.unsigned.ensures ∙ ap unsigned32 (to_z-of_z w32 c.in-Some.p.remaining (search rules)),
    )
