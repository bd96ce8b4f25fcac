use Prim.Native.Nat.{◌<◌}
use native.Mathlib.Omega.{arith}
use Rattle.thin.proofs.Counting.{one_le, byte_one}
use Rattle.thin.proofs.Steps.{hint_seen, count_start, count_step, count_short, count_end}
use Rattle.thin.proofs.count_to.Goals as goal

pub loop-i-init : goal.loop-i-init
loop-i-init c = count_start _ _

pub overflow_add-found : goal.overflow_add-found
overflow_add-found c =
    omega (
      arith,
      count_short c.loop-i.invariant,
      one_le c.is_within.result,
      byte_one c.is_within.result c.from-found.ensures,
    )

pub loop-i-preserved : goal.loop-i-preserved
loop-i-preserved c =
    let f : c.read_hint-h.result.number < 4294967296 = omega arith in
    let h = hint_seen _ _ _ c.loop-i-test.true c.read_hint-h.ensures in
    count_step c.loop-i.invariant h f c.is_within.ensures (byte_one c.is_within.result c.from-found.ensures)

pub returns : goal.returns
returns c = count_end _ _ c.loop-i.invariant c.loop-i.auto.i-end c.loop-i-test.false
