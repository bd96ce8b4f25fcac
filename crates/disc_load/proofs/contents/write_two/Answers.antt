use Rattle.save.proofs.output.Stretches.{put_both, put_one}
use Rattle.disc_load.proofs.contents.write_two.Goals as goal

pub returns : goal.returns
returns c = put_both (put_one 4 _ 0 2 c.write_u32.ensures) (put_both c.write_entry-at.ensures c.write_entry.ensures)
