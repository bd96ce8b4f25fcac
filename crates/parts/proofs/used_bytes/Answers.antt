use native.Mathlib.Omega.{arith}
use mathlib.Core.Path.{◌∙◌}
use mathlib.Core.List.{[]}
use Rattle.tables.specs.Tables.{headers_in}
use Rattle.tables.proofs.Frames.{weight_on, weight_end, frames_used}
use Rattle.parts.proofs.used_bytes.Goals as goal

pub loop-i-preserved : goal.loop-i-preserved
loop-i-preserved c = (
  omega arith,
  weight_on _ _ _ _
      c.loop-i-test.true c.read_header.ensures c.loop-i.invariant.1,
)

pub returns : goal.returns
returns c =
    λ store. weight_end _ _ _ _ c.loop-i-test.false c.loop-i.invariant.1
    ∙ frames_used (headers_in c.args.f c.args.frames.now) []
    store
