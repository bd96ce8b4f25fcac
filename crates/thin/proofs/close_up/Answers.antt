use Prim.Native.Nat.{◌<◌}
use mathlib.Core.Path.{◌∙◌, refl}
use native.Mathlib.Omega.{arith}
use Rattle.tables.proofs.Kept.{kept_layout}
use Rattle.thin.proofs.Steps.{pass_start, pass_short, pass_within, pass_step, pass_end}
use Rattle.laws.proofs.hint_lists.Passes.{begins_at}
use Rattle.thin.proofs.close_up.Goals as goal

pub loop-i-init : goal.loop-i-init
loop-i-init c = (refl, pass_start _ _ _ c.first_place-p.ensures)

pub turn-p-requires : goal.turn-p-requires
turn-p-requires c = pass_within _ _ c.loop-i.invariant.1 c.loop-i-test.true (omega arith)

pub loop-i-preserved : goal.loop-i-preserved
loop-i-preserved c =
    let f : c.read_hint-h.result.number < 4294967296 = omega arith in
    let u = c.loop-i.invariant.1 in
    let e = c.read_hint-h.ensures ∙ begins_at kept_layout u.starts _ (pass_short u) in
    let l = c.loop-i-test.true in
    let v = c.turn-p in (
      omega (arith, v.auto.t),
      pass_step _ _ u l e f (pass_within _ _ u l (omega arith)) v.ensures.0 v.ensures.1,
    )

pub shape_of-t : goal.shape_of-t
shape_of-t c = c.loop-i.invariant.0

pub returns : goal.returns
returns c = pass_end _ _ c.loop-i.invariant.1 c.loop-i.auto.i-end c.loop-i-test.false
