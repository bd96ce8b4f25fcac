use Rattle.disc_load.proofs.contents.Reading.{entry_put}
use Rattle.disc_load.proofs.contents.write_entry.Goals as goal

pub returns : goal.returns
returns c = entry_put _ _ c.write_u32.ensures c.write_u32-2.ensures c.write_u32-3.ensures
