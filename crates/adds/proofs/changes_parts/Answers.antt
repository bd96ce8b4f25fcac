use Rattle.adds.proofs.Parts.{parts_asked, parts_answered}
use Rattle.adds.proofs.changes_parts.Goals as goal
use Rattle.adds.proofs.changes_parts.Goals.{then-go, else-go}

pub stores_some-requires : goal.stores_some-requires
stores_some-requires c = parts_asked c.requires (elim c.if-go.branch [ then-go w ↦ rw (w.if-go.true, w.h-is) | else-go w ↦ rw (w.if-go.false, w.h-is) ]) (c.used_bytes.ensures _)

pub returns : goal.returns
returns c = parts_answered c.requires (elim c.if-go.branch [ then-go w ↦ rw (w.if-go.true, w.h-is) | else-go w ↦ rw (w.if-go.false, w.h-is) ]) c.stores_some.ensures
