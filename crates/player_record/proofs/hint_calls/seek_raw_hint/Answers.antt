use mathlib.Core.Bool.{not}
use mathlib.Core.Path.{ap}
use Rattle.player_record.specs.PlayerRecord.{hint_call}
use Rattle.blocks.proofs.calls.Blocks.{too_short, no_head, is_head_lemma, known, known_long}
use Rattle.player_record.proofs.hint_calls.Answers.{hint_done}
use Rattle.player_record.proofs.hint_calls.seek_raw_hint.Goals as goal

pub returns-then-not-is_index : goal.returns-then-not-is_index
unfolding hint_call
returns-then-not-is_index c = no_head _ _ _ c.is_index.ensures (ap not c.if-not-is_index.true)

pub returns-then-answer-lt-HEAD_BYTES : goal.returns-then-answer-lt-HEAD_BYTES
unfolding hint_call
returns-then-answer-lt-HEAD_BYTES c = is_head_lemma _ _ _ (known c.is_index.ensures (ap not c.if-not-is_index.false)) (too_short _ _ _ c.if-answer-lt-HEAD_BYTES.true)

pub returns : goal.returns
returns c = hint_done _ _ _ c.if-answer-lt-HEAD_BYTES.false _ (known c.is_index.ensures (ap not c.if-not-is_index.false)) _ _ _ _ _ _ c.put_hint.ensures c.hint-hinted.ensures c.index_in-x.ensures

pub index_in-x-requires : goal.index_in-x-requires
index_in-x-requires c = known_long _ _ c.is_index.ensures (ap not c.if-not-is_index.false)
