use mathlib.Core.Path.{sym}
use native.Mathlib.Nat.{zero-mul}
use native.Mathlib.Omega.{arith}
use Rattle.coarsen.proofs.Asked.{last_kept_is, last_reach}
use Rattle.coarsen.proofs.questions.last_kept.Goals as goal

pub returns-then-m-eq0 : goal.returns-then-m-eq0
returns-then-m-eq0 c = last_kept_is 0 c.requires (let e = c.if-m-eq0.true in rw e (sym (zero-mul c.args.r))) c.get_checkpoint.ensures

pub last_place-requires : goal.last_place-requires
last_place-requires c =
    let e = c.if-m-eq0.false in
    let a = last_reach c.requires in
    let b = c.ranges.n.fits in
    (omega arith, omega arith)

pub returns : goal.returns
returns c = last_kept_is _ c.requires c.last_place.ensures c.get_checkpoint-2.ensures
