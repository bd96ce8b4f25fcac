use Rattle.save.proofs.output.Sums.{summed_lent}
use Rattle.save.proofs.write.Frames.{frames_in_size}
use native.Mathlib.Omega.{arith}
use Rattle.save.proofs.write.put_frames.Goals as goal

pub returns : goal.returns
returns c = summed_lent _ _ _ _ _ _ (frames_in_size _ _ _) (omega (arith, c.requires.3)) (omega (arith, c.requires.2)) c.write_frames-sum.ensures
