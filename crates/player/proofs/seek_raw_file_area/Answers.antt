use Rattle.player.specs.Player.{file_area_call}
use Rattle.blocks.proofs.calls.Blocks.{too_short}
use Rattle.player.proofs.Answers.{file_area_done}
use Rattle.player.proofs.seek_raw_file_area.Goals as goal

pub returns-then-answer-lt-HEAD_BYTES : goal.returns-then-answer-lt-HEAD_BYTES
unfolding file_area_call
returns-then-answer-lt-HEAD_BYTES c = too_short _ _ _ c.if-answer-lt-HEAD_BYTES.true

pub returns : goal.returns
returns c = file_area_done _ _ _ c.if-answer-lt-HEAD_BYTES.false _ _ c.put_area.ensures c.file_area-area.ensures
