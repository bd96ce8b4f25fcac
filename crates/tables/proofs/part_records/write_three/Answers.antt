use Rattle.tables.proofs.part_records.Records.{three_put}
use Rattle.tables.proofs.part_records.write_three.Goals as goal

pub returns : goal.returns
returns c = three_put _ _ _ _ _ c.write_u32.ensures c.write_u32-2.ensures c.write_u32-3.ensures
