use Rattle.tables.specs.Tables.{frames_of, headers_in}
use Rattle.rules.specs.Values.{used}
use Rattle.plan.proofs.Held.{weight_next, weight_offset}
use native.Mathlib.Omega.{arith}
use mathlib.Core.Path.{refl}
use Rattle.plan.proofs.offset_of.Goals as goal

pub loop-i-init : goal.loop-i-init
unfolding frames_of used
loop-i-init c = (refl, omega arith)

pub loop-i-preserved : goal.loop-i-preserved
loop-i-preserved c = (
  weight_next c.loop-i.i (headers_in c.args.f c.args.frames.now) c.loop-i.invariant.0 c.get_header.ensures,
  omega (arith, c.loop-i.invariant.1),
)

pub returns : goal.returns
returns c = λ store. weight_offset _ _ _ store c.loop-i.auto.i-end c.loop-i-test.false c.loop-i.invariant.0
