use mathlib.Core.Bool.{not}
use mathlib.Core.Path.{ap}
use Rattle.player_record.specs.PlayerRecord.{take_call}
use Rattle.blocks.proofs.calls.Blocks.{too_short, no_head, is_head_lemma, known, known_long}
use Rattle.player_record.proofs.hint_calls.Answers.{take_done}
use borrow.Author.Rules.{rules}
use Rattle.player_record.proofs.hint_calls.seek_raw_take.Goals as goal

pub returns-then-not-is_hint_recorder : goal.returns-then-not-is_hint_recorder
unfolding take_call
returns-then-not-is_hint_recorder c = no_head _ _ _ c.is_hint_recorder.ensures (ap not c.if-not-is_hint_recorder.true)

pub returns-then-answer-lt-HEAD_BYTES : goal.returns-then-answer-lt-HEAD_BYTES
unfolding take_call
returns-then-answer-lt-HEAD_BYTES c = is_head_lemma _ _ _ (known c.is_hint_recorder.ensures (ap not c.if-not-is_hint_recorder.false)) (too_short _ _ _ c.if-answer-lt-HEAD_BYTES.true)

pub returns : goal.returns
returns c = take_done _ _ _ (known c.is_hint_recorder.ensures (ap not c.if-not-is_hint_recorder.false)) _ c.hint_recorder_in-r.ensures _ _ c.if-answer-lt-HEAD_BYTES.false _ _ c.put_taken.ensures c.take-taken.ensures

pub hint_recorder_in-r-requires : goal.hint_recorder_in-r-requires
hint_recorder_in-r-requires c = known_long _ _ c.is_hint_recorder.ensures (ap not c.if-not-is_hint_recorder.false)

pub put_taken-requires : goal.put_taken-requires
put_taken-requires c = search (rules, known_long _ _ c.is_hint_recorder.ensures (ap not c.if-not-is_hint_recorder.false))
