use Rattle.save.proofs.layout.Numbers.{frames_counted}
use Rattle.save.proofs.layout.frame_bytes.Goals as goal

pub returns : goal.returns
returns c = frames_counted _ _ c.requires c.check_frames.ensures
