use Rattle.player.specs.Player.{new_call}
use Rattle.blocks.proofs.calls.Blocks.{too_short}
use Rattle.player.proofs.Answers.{new_done}
use Rattle.player.proofs.seek_raw_new.Goals as goal

pub returns-then-head-lt-HEAD_BYTES : goal.returns-then-head-lt-HEAD_BYTES
unfolding new_call
returns-then-head-lt-HEAD_BYTES c = too_short _ _ _ c.if-head-lt-HEAD_BYTES.true

pub returns : goal.returns
returns c = new_done _ _ _ c.if-head-lt-HEAD_BYTES.false _ _ _ _ _ _ _ _ c.put_made.ensures c.new-made.ensures c.area_from-area.ensures
