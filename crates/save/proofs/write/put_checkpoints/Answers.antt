use Rattle.save.proofs.write.Sections.{table_records}
use Rattle.laws.proofs.Layouts.{checkpoint_layout}
use Rattle.save.proofs.write.put_checkpoints.Goals as goal

pub returns : goal.returns
returns c = table_records checkpoint_layout _ _ (λ i. (c.type_inv.table i).fits) c.requires.0 c.put_table.ensures
