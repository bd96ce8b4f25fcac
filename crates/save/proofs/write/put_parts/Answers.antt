use Rattle.index.proofs.Lent.{parts_bytes}
use Rattle.save.proofs.write.put_parts.Goals as goal

pub returns : goal.returns
returns c = rw (parts_bytes _ _ (λ i. (c.type_inv.table i).fits) c.requires.0 c.requires.2) c.put_table.ensures
