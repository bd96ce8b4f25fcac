use Rattle.player_disc.specs.PlayerDisc.{disc_sizes_call}
use Rattle.blocks.proofs.calls.Blocks.{too_short}
use Rattle.player_disc.proofs.Answers.{sizes_done}
use Rattle.player_disc.proofs.seek_raw_disc_sizes.Goals as goal

pub returns-then-answer-lt-HEAD_BYTES : goal.returns-then-answer-lt-HEAD_BYTES
unfolding disc_sizes_call
returns-then-answer-lt-HEAD_BYTES c = too_short _ _ _ c.if-answer-lt-HEAD_BYTES.true

pub returns : goal.returns
returns c =
    sizes_done _ _ _ c.if-answer-lt-HEAD_BYTES.false _ _ _ _ _ _ _ c.put_disc_sizes.ensures c.disc_sizes-sized.ensures c.area_from-area0.ensures
    c.area_from-area1.ensures
