use Rattle.save.proofs.write.Sections.{table_records}
use Rattle.laws.proofs.Layouts.{lsn_layout}
use Rattle.save.proofs.write.put_malformed.Goals as goal

pub returns : goal.returns
returns c = table_records lsn_layout _ _ (λ i. (c.type_inv.table i).fits) c.requires.0 c.put_table.ensures
