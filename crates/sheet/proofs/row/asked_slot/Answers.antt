use Rattle.sheet.specs.Rows.{asked_slot}
use borrow.Author.Tests.{le-leb, lt-leb}
use Rattle.sheet.proofs.row.asked_slot.Goals as goal

pub returns-then-slot-le1 : goal.returns-then-slot-le1
unfolding asked_slot
returns-then-slot-le1 c = rw (le-leb c.args.slot 1 c.if-slot-le1.true)

pub returns-else-slot-le1 : goal.returns-else-slot-le1
unfolding asked_slot
returns-else-slot-le1 c = rw (lt-leb c.args.slot 1 c.if-slot-le1.false)
