use Rattle.lacks.proofs.Parts.{going_start, going_on, going_end}
use mathlib.Core.Path.{refl}
use borrow.Author.Rules.{rules}
use Rattle.lacks.proofs.source_to.Goals as goal

pub loop-k-init : goal.loop-k-init
loop-k-init c = going_start _ _ _ _ c.nearest-from.ensures c.requires.0 c.requires.1

pub loop-k-preserved : goal.loop-k-preserved
loop-k-preserved c = going_on c.loop-k.invariant c.loop-k-test.true c.get_header.ensures (search rules)

pub returns : goal.returns
returns c =
    let e = going_end c.loop-k.invariant c.loop-k-test.false in
    (refl, e.0, e.1)
