use native.Mathlib.Nat.{add-zero, add-suc}
use Rattle.rules.specs.Sections.{checkpoints_ok}
use native.Mathlib.Numerals.{add-one}
use mathlib.Core.Path.{◌∙◌, sym}
use Rattle.tables.proofs.Walk.{walk_start, walk_on, walk_stop, walk_end}
use Rattle.sections.proofs.records.check_checkpoints.Goals as goal

pub loop-j-init : goal.loop-j-init
unfolding checkpoints_ok
loop-j-init c = rw add-zero (walk_start _ _ _ _ _ _ _)

pub returns-then-not-checkpoint_ok : goal.returns-then-not-checkpoint_ok
returns-then-not-checkpoint_ok c = walk_stop c.loop-j.invariant c.loop-j-test.true c.read_checkpoint-c.ensures (sym c.checkpoint_ok.ensures ∙ c.if-not-checkpoint_ok.true)

pub loop-j-preserved : goal.loop-j-preserved
loop-j-preserved c = walk_on c.loop-j.invariant c.loop-j-test.true c.read_checkpoint-c.ensures (sym c.checkpoint_ok.ensures ∙ c.if-not-checkpoint_ok.false) (rw (add-one, add-suc))

pub returns : goal.returns
returns c = walk_end c.loop-j.invariant c.loop-j-test.false
