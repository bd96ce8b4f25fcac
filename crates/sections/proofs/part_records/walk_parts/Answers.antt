use Rattle.tables.proofs.Frames.{before_next}
use Rattle.tables.specs.Tables.{before}
use mathlib.Core.Path.{◌∙◌, sym}
use Rattle.tables.proofs.Walk.{walk_start, walk_on, walk_stop, walk_end}
use Rattle.sections.proofs.part_records.walk_parts.Goals as goal

pub loop-j-init : goal.loop-j-init
unfolding before
loop-j-init c = walk_start _ _ _ _ _ _ _

pub returns-then-not-part_ok : goal.returns-then-not-part_ok
returns-then-not-part_ok c = walk_stop c.loop-j.invariant c.loop-j-test.true c.read_held-p.ensures (sym c.part_ok.ensures ∙ c.if-not-part_ok.true)

pub loop-j-preserved : goal.loop-j-preserved
loop-j-preserved c = walk_on c.loop-j.invariant c.loop-j-test.true c.read_held-p.ensures (sym c.part_ok.ensures ∙ c.if-not-part_ok.false) (before_next c.loop-j.j _)

pub returns : goal.returns
returns c = walk_end c.loop-j.invariant c.loop-j-test.false
