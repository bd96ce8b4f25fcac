use Rattle.adds.proofs.compare.Passing.{weigh_start, weigh_on, weigh_end}
use Rattle.tables.specs.Tables.{decode_kept, decode_unkept}
use Rattle.field.proofs.Records.{records_length}
use Rattle.adds.proofs.compare.weigh.Goals as goal

pub loop-i-init : goal.loop-i-init
loop-i-init c = weigh_start _ _ _ _ c.nothing_weighed-s.ensures

pub loop-i-preserved : goal.loop-i-preserved
loop-i-preserved c = weigh_on c.loop-i.invariant c.next_hint-t.ensures c.weigh_one-s.ensures

pub returns : goal.returns
returns c =
    weigh_end (records_length 8 decode_kept _ _) (records_length 8 decode_unkept _ _) c.loop-i.invariant
    c.loop-i-test.false
