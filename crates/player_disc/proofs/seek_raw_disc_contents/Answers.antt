use Rattle.player_disc.specs.PlayerDisc.{disc_contents_call}
use Rattle.blocks.proofs.calls.Blocks.{too_short}
use Rattle.player_disc.proofs.Answers.{contents_done}
use Rattle.player_disc.proofs.seek_raw_disc_contents.Goals as goal

pub returns-then-answer-lt-HEAD_BYTES : goal.returns-then-answer-lt-HEAD_BYTES
unfolding disc_contents_call
returns-then-answer-lt-HEAD_BYTES c = too_short _ _ _ c.if-answer-lt-HEAD_BYTES.true

pub returns : goal.returns
returns c = contents_done _ _ _ c.if-answer-lt-HEAD_BYTES.false _ _ c.put_contents.ensures c.read_contents-contents.ensures
