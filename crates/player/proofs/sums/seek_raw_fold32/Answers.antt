use Rattle.player.specs.Player.{fold_call}
use Rattle.blocks.proofs.calls.Blocks.{too_short}
use Rattle.player.proofs.sums.Answers.{fold_done}
use Rattle.player.proofs.sums.seek_raw_fold32.Goals as goal

pub returns-then-answer-lt-HEAD_BYTES : goal.returns-then-answer-lt-HEAD_BYTES
unfolding fold_call
returns-then-answer-lt-HEAD_BYTES c = too_short _ _ _ c.if-answer-lt-HEAD_BYTES.true

pub returns : goal.returns
returns c = fold_done _ _ _ c.if-answer-lt-HEAD_BYTES.false 32 _ _ _ c.put_folded.ensures c.fold32-folded.ensures
