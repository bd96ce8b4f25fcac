use mathlib.Core.Path.{◌∙◌}
use native.Mathlib.Omega.{arith}
use Rattle.std.proofs.lemmas.Bool.Decides.{nat_tests}
use Rattle.rules.specs.Sections.{rising, hint_lsn, hint_ok, hints_ok}
use Rattle.tables.proofs.Records.{hint_take}
use Rattle.tables.proofs.Tests.{rising_is}
use Rattle.tables.proofs.Walk.{walk_start, walk_on, walk_stop, walk_end}
use Rattle.sections.proofs.records.check_numbered.Goals as goal

pub loop-j-init : goal.loop-j-init
unfolding hints_ok rising
loop-j-init c = walk_start _ _ _ _ _ _ _

pub returns-then-not-rising_ok : goal.returns-then-not-rising_ok
returns-then-not-rising_ok c =
    walk_stop c.loop-j.invariant c.loop-j-test.true (c.hint_at-h.ensures ∙ hint_take _ _ c.requires.1)
    (grind (arith, nat_tests, rising_is hint_lsn hint_ok))

pub loop-j-preserved : goal.loop-j-preserved
loop-j-preserved c =
    walk_on c.loop-j.invariant c.loop-j-test.true (c.hint_at-h.ensures ∙ hint_take _ _ c.requires.1)
    (grind (arith, nat_tests, rising_is hint_lsn hint_ok)) (omega arith)

pub returns : goal.returns
returns c = walk_end c.loop-j.invariant c.loop-j-test.false
