use Rattle.player.specs.Player.{first_call}
use Rattle.blocks.proofs.calls.Blocks.{too_short}
use Rattle.player.proofs.Answers.{first_done}
use Rattle.player.proofs.seek_raw_first_record.Goals as goal

pub returns-then-answer-lt-HEAD_BYTES : goal.returns-then-answer-lt-HEAD_BYTES
unfolding first_call
returns-then-answer-lt-HEAD_BYTES c = too_short _ _ _ c.if-answer-lt-HEAD_BYTES.true

pub returns : goal.returns
returns c = first_done _ _ _ c.if-answer-lt-HEAD_BYTES.false _ _ c.put_first.ensures c.first_record-first.ensures
