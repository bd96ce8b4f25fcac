use mathlib.Core.Path.{sym, ◌∙◌}
use Rattle.sections.proofs.records.Marks.{asking_start, asking_end, stop_lsn, on_plain, stop_mark, on_kept}
use Rattle.sections.proofs.records.check_kept.Goals as goal
use Rattle.sections.proofs.records.check_kept.Goals.{then-given-ge-MAX_NEXT_ACCEPTABLE+else-not-kept_ok, else-given-ge-MAX_NEXT_ACCEPTABLE}

pub loop-j-init : goal.loop-j-init
loop-j-init c = asking_start _ _ _ _

pub returns-then-not-rising_ok : goal.returns-then-not-rising_ok
returns-then-not-rising_ok c = stop_lsn c.loop-j.invariant c.loop-j-test.true c.read_given-given.ensures (sym c.rising_ok.ensures ∙ c.if-not-rising_ok.true)

pub returns-then-not-kept_ok : goal.returns-then-not-kept_ok
returns-then-not-kept_ok c =
    stop_mark c.loop-j.invariant c.loop-j-test.true c.read_given-given.ensures c.read_hint.ensures c.if-given-ge-MAX_NEXT_ACCEPTABLE.true
    (sym c.kept_ok.ensures ∙ c.if-not-kept_ok.true)

pub loop-j-preserved : goal.loop-j-preserved
loop-j-preserved c =
    let rises = sym c.rising_ok.ensures ∙ c.if-not-rising_ok.false in
    elim c.if-given-ge-MAX_NEXT_ACCEPTABLE.branch [
      | then-given-ge-MAX_NEXT_ACCEPTABLE+else-not-kept_ok w ↦
          rw w.kept-is (on_kept c.loop-j.invariant c.loop-j-test.true c.read_given-given.ensures w.read_hint.ensures rises (sym w.kept_ok.ensures ∙ w.if-not-kept_ok.false))
      | else-given-ge-MAX_NEXT_ACCEPTABLE w ↦
          rw w.kept-is (on_plain c.loop-j.invariant c.loop-j-test.true c.read_given-given.ensures rises w.if-given-ge-MAX_NEXT_ACCEPTABLE.false)
    ]

pub returns : goal.returns
returns c = asking_end c.loop-j.invariant c.loop-j-test.false
