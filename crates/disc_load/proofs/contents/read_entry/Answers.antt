use Rattle.disc_load.proofs.contents.Reading.{entry_read}
use Rattle.disc_load.proofs.contents.read_entry.Goals as goal

pub returns : goal.returns
returns c = entry_read _ _ c.read_u32.ensures c.read_u32-2.ensures c.read_u32-3.ensures
