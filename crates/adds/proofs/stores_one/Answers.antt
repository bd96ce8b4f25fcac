use Rattle.adds.proofs.Seeking.{passed_by, stored_by}
use mir.Syntax.{w32}
use mir.Val.{SFits}
use mir.ValLaws.{to_z-of_z}
use mathlib.Core.Path.{refl}
use borrow.Author.Rules.{rules}
use Rattle.adds.proofs.stores_one.Goals as goal

pub returns-then-p-n : goal.returns-then-p-n
returns-then-p-n c = passed_by _ c.if-p-n.true

pub returns : goal.returns
returns c = stored_by _ _ _ c.args.p _ _ _ _ (to_z-of_z w32 _ ((let got : SFits w32 c.args.p.remaining = search rules in got))) refl c.if-p-n.false c.stores.ensures
