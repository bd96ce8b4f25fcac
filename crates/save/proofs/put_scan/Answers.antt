use Rattle.save.proofs.output.Sums.{summed_both}
use Rattle.save.proofs.put_scan.Goals as goal

pub returns : goal.returns
returns c = summed_both c.put_checkpoints-behind.ensures (summed_both c.put_frames-behind.ensures (summed_both c.put_parts-behind.ensures c.put_malformed.ensures))
