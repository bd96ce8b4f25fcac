use Prim.Native.Nat.{◌<◌}
use mathlib.Core.Path.{refl}
use native.Mathlib.Omega.{arith}
use Rattle.thin.proofs.Steps.{pass_start, pass_room, pass_step, pass_end}
use Rattle.thin.proofs.keep_into.Goals as goal

pub loop-i-init : goal.loop-i-init
loop-i-init c = (refl, pass_start _ _ _ c.first_place-p.ensures)

pub turn-p-requires : goal.turn-p-requires
turn-p-requires c =
    let f : c.read_hint.result.number < 4294967296 = omega arith in
    pass_room _ _ c.loop-i.invariant.1 c.loop-i-test.true c.read_hint.ensures f
    (omega (arith, c.requires, c.loop-i.invariant.0))

pub loop-i-preserved : goal.loop-i-preserved
loop-i-preserved c =
    let f : c.read_hint.result.number < 4294967296 = omega arith in
    let e = c.read_hint.ensures in
    let u = c.loop-i.invariant.1 in
    let l = c.loop-i-test.true in
    let v = c.turn-p in (
      omega (arith, v.auto.t),
      pass_step _ _ u l e f (pass_room _ _ u l e f (omega (arith, c.requires))) v.ensures.0 v.ensures.1,
    )

pub shape_of-dst : goal.shape_of-dst
shape_of-dst c = c.loop-i.invariant.0

pub returns : goal.returns
returns c = pass_end _ _ c.loop-i.invariant.1 c.loop-i.auto.i-end c.loop-i-test.false
