use native.Mathlib.Omega.{arith}
use Rattle.thin.proofs.Counting.{one_yes, one_no}
use Rattle.thin.proofs.Steps.{stayed_is, next_is}
use Rattle.thin.proofs.turn.Goals as goal

pub write_hint-requires : goal.write_hint-requires
write_hint-requires c =
    let a = c.args in
    let s = stayed_is a.cut a.p a.h c.gap_of-g.ensures c.stays_at.ensures c.if-not-stays_at.false in
    omega (arith, one_yes s)

pub returns-then-not-stays_at : goal.returns-then-not-stays_at
returns-then-not-stays_at c =
    let a = c.args in
    let s = stayed_is a.cut a.p a.h c.gap_of-g.ensures c.stays_at.ensures c.if-not-stays_at.true in
    (next_is a.cut a.p a.h c.gap_of-g.ensures c.spent.ensures (omega (arith, one_no s)), rw s)

pub returns : goal.returns
returns c =
    let a = c.args in
    let s = stayed_is a.cut a.p a.h c.gap_of-g.ensures c.stays_at.ensures c.if-not-stays_at.false in (
      next_is a.cut a.p a.h c.gap_of-g.ensures c.spent.ensures (omega (arith, one_yes s)),
      rw s c.write_hint.ensures,
    )
