use Rattle.save.proofs.output.Stretches.{put_both, put_one}
use Rattle.disc_load.proofs.contents.write_one.Goals as goal

pub returns : goal.returns
returns c = put_both (put_one 4 _ 0 1 c.write_u32.ensures) c.write_entry.ensures
