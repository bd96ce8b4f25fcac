use mir.ValLaws.{to_z-of_z}
use mir.Syntax.{w32}
use borrow.Author.Rules.{rules}
use Rattle.plan.proofs.stored.Goals as goal

pub returns : goal.returns
returns c =
    λ store. rw (
      c.offset_of.ensures store,
      to_z-of_z w32 c.args.p.remaining
          (search rules),
    )
