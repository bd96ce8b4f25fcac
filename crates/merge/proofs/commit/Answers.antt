use Rattle.merge.proofs.Steps.{committed}
use Rattle.merge.proofs.Ready.{appends, takes, parts_ready, hints_ready, confirmed_ready}
use Rattle.merge.proofs.commit.Goals as goal
use Rattle.merge.proofs.commit.Goals.{then-go, else-go}

pub append_checkpoints-n-requires : goal.append_checkpoints-n-requires
append_checkpoints-n-requires c =
    appends c.requires c.further-go.ensures
    (elim c.if-go.branch [ then-go w ↦ rw (w.if-go.true, w.k-is) | else-go w ↦ rw (w.if-go.false, w.k-is) ])

pub take_parts-c-requires : goal.take_parts-c-requires
take_parts-c-requires c =
    parts_ready c.requires c.further-go.ensures
    (elim c.if-go.branch [ then-go w ↦ rw (w.if-go.true, w.k-is) | else-go w ↦ rw (w.if-go.false, w.k-is) ])

pub take_malformed-m-requires : goal.take_malformed-m-requires
take_malformed-m-requires c = takes c.requires c.further-go.ensures

pub join_hints-s-requires : goal.join_hints-s-requires
join_hints-s-requires c = hints_ready c.requires c.further-go.ensures

pub merge_confirmations-d-requires : goal.merge_confirmations-d-requires
merge_confirmations-d-requires c = confirmed_ready c.requires c.further-go.ensures

pub returns : goal.returns
returns c =
    committed _ _ _ _ c.further-go.ensures
    (elim c.if-go.branch [ then-go w ↦ rw (w.if-go.true, w.k-is) | else-go w ↦ rw (w.if-go.false, w.k-is) ])
    (elim c.if-go.branch [ then-go w ↦ rw (w.if-go.true, w.k-is) | else-go w ↦ rw (w.if-go.false, w.k-is) ])
    c.append_checkpoints-n.ensures c.take_parts-c.ensures
    c.take_malformed-m.ensures c.join_hints-s.ensures (rw c.is_checked.ensures at c.merge_confirmations-d.ensures) c.numbers.ensures
