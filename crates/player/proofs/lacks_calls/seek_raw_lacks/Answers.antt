use mathlib.Core.Bool.{not}
use mathlib.Core.Path.{ap}
use Rattle.player.specs.Player.{lacks_call}
use Rattle.blocks.proofs.calls.Blocks.{too_short, no_head, is_head_lemma, known, known_long}
use Rattle.player.proofs.lacks_calls.Answers.{lacks_done}
use Rattle.player.proofs.lacks_calls.seek_raw_lacks.Goals as goal

pub returns-then-not-is_index : goal.returns-then-not-is_index
unfolding lacks_call
returns-then-not-is_index c = no_head _ _ _ c.is_index.ensures (ap not c.if-not-is_index.true)

pub returns-then-not-is_index-2 : goal.returns-then-not-is_index-2
unfolding lacks_call
returns-then-not-is_index-2 c = is_head_lemma _ _ _ (known c.is_index.ensures (ap not c.if-not-is_index.false)) (no_head _ _ _ c.is_index-2.ensures (ap not c.if-not-is_index-2.true))

pub returns-then-answer-lt-HEAD_BYTES : goal.returns-then-answer-lt-HEAD_BYTES
unfolding lacks_call
returns-then-answer-lt-HEAD_BYTES c = is_head_lemma _ _ _ (known c.is_index.ensures (ap not c.if-not-is_index.false)) (is_head_lemma _ _ _ (known c.is_index-2.ensures (ap not c.if-not-is_index-2.false)) (too_short _ _ _ c.if-answer-lt-HEAD_BYTES.true))

pub returns : goal.returns
returns c =
    lacks_done _ _ _ c.if-answer-lt-HEAD_BYTES.false _ (known c.is_index-2.ensures (ap not c.if-not-is_index-2.false)) _ _ c.index_in-y.ensures _ _ _ (known c.is_index.ensures (ap not c.if-not-is_index.false)) _ c.put_lacks.ensures
    c.lacks-lacked.ensures c.index_in-x.ensures

pub index_in-x-requires : goal.index_in-x-requires
index_in-x-requires c = known_long _ _ c.is_index.ensures (ap not c.if-not-is_index.false)

pub index_in-y-requires : goal.index_in-y-requires
index_in-y-requires c = known_long _ _ c.is_index-2.ensures (ap not c.if-not-is_index-2.false)
