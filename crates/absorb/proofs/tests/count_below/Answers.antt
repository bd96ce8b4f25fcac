use Rattle.absorb.proofs.tests.Common.{count_start, count_more, count_same, count_end}
use Rattle.absorb.proofs.tests.count_below.Goals as goal
use Rattle.absorb.proofs.tests.count_below.Goals.{then-read_lsn-front, else-read_lsn-front}

pub loop-j-init : goal.loop-j-init
loop-j-init c = count_start

pub loop-j-preserved : goal.loop-j-preserved
loop-j-preserved c =
    elim c.if-read_lsn-front.branch [
      | then-read_lsn-front w ↦ rw w.count-is (count_more c.loop-j.invariant c.loop-j-test.true c.read_lsn.ensures w.if-read_lsn-front.true)
      | else-read_lsn-front w ↦ rw w.count-is (count_same c.loop-j.invariant c.loop-j-test.true c.read_lsn.ensures w.if-read_lsn-front.false)
    ]

pub returns : goal.returns
returns c = count_end c.loop-j.invariant c.loop-j-test.false
