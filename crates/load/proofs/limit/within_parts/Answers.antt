use mathlib.Core.Path.{◌∙◌}
use Rattle.load.proofs.limit.Parts.{stay_on, stay_stop, stay_end}
use Rattle.load.proofs.limit.within_parts.Goals as goal

pub returns-then-n-read_held : goal.returns-then-n-read_held
returns-then-n-read_held c = stay_stop c.loop-j.invariant c.loop-j-test.true c.read_held.ensures c.if-n-read_held.true ∙ rw c.behind-section.ensures

pub loop-j-preserved : goal.loop-j-preserved
loop-j-preserved c = stay_on c.loop-j.invariant c.loop-j-test.true c.read_held.ensures c.if-n-read_held.false

pub returns : goal.returns
returns c = stay_end c.loop-j.invariant c.loop-j-test.false ∙ rw c.behind-section.ensures
