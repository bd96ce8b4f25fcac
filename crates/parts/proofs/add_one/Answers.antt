use mathlib.Core.Path.{refl}
use mir.Syntax.{w32}
use mir.Val.{SFits}
use mir.ValLaws.{to_z-of_z}
use Rattle.parts.proofs.Adding.{added_no, added_part}
use borrow.Author.Rules.{rules}
use Rattle.parts.proofs.add_one.Goals as goal

pub returns-then-not-go : goal.returns-then-not-go
returns-then-not-go c = added_no _ _ _ _ c.if-not-go.true

pub returns : goal.returns
returns c =
    added_part _ _ _ c.args.p _ _ _ _ _ (to_z-of_z w32 _ ((let got : SFits w32 c.args.p.remaining = search rules in got))) refl c.if-not-go.false
    c.add_part.ensures
