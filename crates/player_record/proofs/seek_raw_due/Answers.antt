use mathlib.Core.Bool.{not}
use mathlib.Core.Path.{ap}
use Rattle.player_record.specs.PlayerRecord.{due_call}
use Rattle.blocks.proofs.calls.Blocks.{too_short, no_head, is_head_lemma, known, known_long}
use Rattle.player_record.proofs.Answers.{due_done}
use Rattle.player_record.proofs.seek_raw_due.Goals as goal

pub returns-then-not-is_recorder : goal.returns-then-not-is_recorder
unfolding due_call
returns-then-not-is_recorder c = no_head _ _ _ c.is_recorder.ensures (ap not c.if-not-is_recorder.true)

pub returns-then-answer-lt-HEAD_BYTES : goal.returns-then-answer-lt-HEAD_BYTES
unfolding due_call
returns-then-answer-lt-HEAD_BYTES c = is_head_lemma _ _ _ (known c.is_recorder.ensures (ap not c.if-not-is_recorder.false)) (too_short _ _ _ c.if-answer-lt-HEAD_BYTES.true)

pub returns : goal.returns
returns c = due_done _ _ _ _ c.if-answer-lt-HEAD_BYTES.false _ c.put_boundary.ensures (known c.is_recorder.ensures (ap not c.if-not-is_recorder.false)) _ c.due_lsn-due.ensures c.recorder_in-r.ensures

pub recorder_in-r-requires : goal.recorder_in-r-requires
recorder_in-r-requires c = known_long _ _ c.is_recorder.ensures (ap not c.if-not-is_recorder.false)
