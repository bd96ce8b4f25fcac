use mathlib.Core.Bool.{and-true}
use mathlib.Core.Path.{◌∙◌, sym}
use native.Mathlib.Omega.{arith}
use Rattle.rules.specs.Sections.{own_lsn, any_lsn, rising}
use Rattle.tables.proofs.Tests.{rising_is}
use Rattle.tables.proofs.Walk.{walk_start, walk_on, walk_stop, walk_end}
use Rattle.sections.proofs.records.check_lsns.Goals as goal

pub loop-j-init : goal.loop-j-init
unfolding rising
loop-j-init c = walk_start _ _ _ _ _ _ _

pub returns-then-not-rising_ok : goal.returns-then-not-rising_ok
returns-then-not-rising_ok c =
    walk_stop c.loop-j.invariant c.loop-j-test.true c.read_lsn-lsn.ensures
    (rw (rising_is own_lsn any_lsn, and-true) (sym c.rising_ok.ensures ∙ c.if-not-rising_ok.true))

pub loop-j-preserved : goal.loop-j-preserved
loop-j-preserved c =
    walk_on c.loop-j.invariant c.loop-j-test.true c.read_lsn-lsn.ensures
    (rw (rising_is own_lsn any_lsn, and-true) (sym c.rising_ok.ensures ∙ c.if-not-rising_ok.false)) (omega arith)

pub returns : goal.returns
returns c = walk_end c.loop-j.invariant c.loop-j-test.false
