use Rattle.lacks.proofs.Parts.{same_by}
use mir.Syntax.{w32}
use mir.Val.{SFits}
use mir.ValLaws.{to_z-of_z}
use borrow.Author.Rules.{rules}
use native.Mathlib.Omega.{arith}
use Rattle.lacks.proofs.same_part.Goals as goal

pub returns-then-same : goal.returns-then-same
returns-then-same c =
    grind (
      arith,
      same_by c.args.p c.args.q c.args.n c.alike-rest.ensures (to_z-of_z w32 _ ((let got : SFits w32 c.args.p.remaining = search rules in got)))
          (to_z-of_z w32 _ ((let got : SFits w32 c.args.q.remaining = search rules in got))) c.same_remaining-same.ensures,
    )

pub returns-else-same : goal.returns-else-same
returns-else-same c =
    grind (
      arith,
      same_by c.args.p c.args.q c.args.n c.alike-rest.ensures (to_z-of_z w32 _ ((let got : SFits w32 c.args.p.remaining = search rules in got)))
          (to_z-of_z w32 _ ((let got : SFits w32 c.args.q.remaining = search rules in got))) c.same_remaining-same.ensures,
    )
