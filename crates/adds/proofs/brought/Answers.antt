use Rattle.adds.proofs.Answers.{lsns_room, hints_room, confirmed_room, parts_read, brought_is}
use Rattle.adds.proofs.brought.Goals as goal
use Rattle.adds.proofs.brought.Goals.{then-go, else-go, then-go-2, else-go-2, then-go-3, else-go-3}

pub same_lsns-lsns-requires : goal.same_lsns-lsns-requires
same_lsns-lsns-requires c = lsns_room c.requires

pub changes_parts-requires : goal.changes_parts-requires
changes_parts-requires c = parts_read c.requires c.further-go.ensures

pub changes_hints-requires : goal.changes_hints-requires
changes_hints-requires c = hints_room c.requires

pub changes_confirmed-requires : goal.changes_confirmed-requires
changes_confirmed-requires c = confirmed_room c.requires

pub returns : goal.returns
returns c =
    brought_is c.requires c.further-go.ensures
    (elim c.if-go.branch [ then-go w ↦ rw (w.if-go.true, w.result-is) | else-go w ↦ rw (w.result-is, w.if-go.false) ])
    (elim c.if-go-2.branch [ then-go-2 w ↦ rw (w.if-go-2.true, w.result-is, w.is_complete.ensures) | else-go-2 w ↦ rw (w.result-is, w.if-go-2.false) ])
    c.changes_parts.ensures
    c.same_lsns-lsns.ensures
    (elim c.if-go-3.branch [ then-go-3 w ↦ rw (w.if-go-3.true, w.result-is) | else-go-3 w ↦ rw (w.result-is, w.if-go-3.false) ])
    c.changes_hints.ensures
    (rw c.is_checked.ensures at c.changes_confirmed.ensures)
    c.fills_fingerprint.ensures c.fills_image.ensures
