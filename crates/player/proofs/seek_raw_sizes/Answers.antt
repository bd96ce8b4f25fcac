use Rattle.player.specs.Player.{sizes_call}
use Rattle.blocks.proofs.calls.Blocks.{too_short}
use Rattle.player.proofs.Answers.{sizes_done}
use Rattle.player.proofs.seek_raw_sizes.Goals as goal

pub returns-then-answer-lt-HEAD_BYTES : goal.returns-then-answer-lt-HEAD_BYTES
unfolding sizes_call
returns-then-answer-lt-HEAD_BYTES c = too_short _ _ _ c.if-answer-lt-HEAD_BYTES.true

pub returns : goal.returns
returns c = sizes_done _ _ _ c.if-answer-lt-HEAD_BYTES.false _ _ _ _ _ _ c.put_sizes.ensures c.sizes-sized.ensures c.area_from-area.ensures
