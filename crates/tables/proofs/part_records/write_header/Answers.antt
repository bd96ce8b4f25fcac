use Rattle.tables.proofs.part_records.Records.{header_put}
use Rattle.tables.proofs.part_records.write_header.Goals as goal

pub returns : goal.returns
returns c = header_put _ _ _ _ c.write_u32.ensures c.write_u32-2.ensures
