-- Each first record is evaluated.
use Rattle.std.proofs.Common.{refl}
use Rattle.rules.specs.FirstRecord.{first_record, time_at}
use Rattle.examples.proofs.Group.{more, same}
use Rattle.examples.proofs.records.examples.Goals as goal

pub returns : goal.returns
unfolding first_record time_at
returns c =
    let one = more 0 _ _ _ _ refl c.line-t.ensures (same _ _ c.first_record-whole.ensures) in
    let two = more 1 _ _ _ _ one c.line-t-2.ensures (same _ _ c.first_record-frameless.ensures) in
    let three = more 2 _ _ _ _ two c.line-t-3.ensures (same _ _ c.first_record-short.ensures) in
    more 3 _ _ _ _ three c.line.ensures (same _ _ c.first_record-empty.ensures)
