use Rattle.save.proofs.output.Stretches.{put_both, put_one}
use Rattle.save.proofs.output.write_hint_header.Goals as goal

pub returns : goal.returns
returns c =
    record {
      put = put_both (put_one 8 _ 0 _ c.write_u64.ensures) (put_both (put_one 4 _ 8 _ c.write_u32.ensures) (put_both (put_one 4 _ 12 _ c.write_u32-2.ensures) (put_both (put_one 4 _ 16 _ c.write_u32-3.ensures) (put_one 4 _ 20 _ c.write_u32-4.ensures))));
      sum = c.sum_hint_header.ensures;
    }
