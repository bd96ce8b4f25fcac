use Rattle.player.specs.Player.{file_sizes_call}
use Rattle.blocks.proofs.calls.Blocks.{too_short}
use Rattle.player.proofs.Answers.{file_sizes_done}
use Rattle.player.proofs.seek_raw_file_sizes.Goals as goal

pub returns-then-answer-lt-HEAD_BYTES : goal.returns-then-answer-lt-HEAD_BYTES
unfolding file_sizes_call
returns-then-answer-lt-HEAD_BYTES c = too_short _ _ _ c.if-answer-lt-HEAD_BYTES.true

pub returns : goal.returns
returns c = file_sizes_done _ _ _ c.if-answer-lt-HEAD_BYTES.false _ _ _ _ _ c.put_sizes.ensures c.file_sizes-sized.ensures c.area_from-area.ensures
