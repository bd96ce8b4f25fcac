use Rattle.save.proofs.write.Sections.{table_records}
use Rattle.laws.proofs.Layouts.{confirmation_layout}
use Rattle.save.proofs.write.put_confirmations.Goals as goal

pub returns : goal.returns
returns c = table_records confirmation_layout _ _ (λ i. (c.type_inv.table i).fits) c.requires.0 c.put_table.ensures
