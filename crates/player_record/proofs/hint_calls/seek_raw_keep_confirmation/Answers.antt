use mathlib.Core.Bool.{not}
use mathlib.Core.Path.{ap}
use Rattle.player_record.specs.PlayerRecord.{keep_call}
use Rattle.blocks.proofs.calls.Blocks.{too_short, no_head, is_head_lemma, known, known_long}
use Rattle.player_record.proofs.hint_calls.Answers.{keep_done}
use borrow.Author.Rules.{rules}
use Rattle.player_record.proofs.hint_calls.seek_raw_keep_confirmation.Goals as goal

pub returns-then-not-is_index : goal.returns-then-not-is_index
unfolding keep_call
returns-then-not-is_index c = no_head _ _ _ c.is_index.ensures (ap not c.if-not-is_index.true)

pub returns-then-answer-lt-HEAD_BYTES : goal.returns-then-answer-lt-HEAD_BYTES
unfolding keep_call
returns-then-answer-lt-HEAD_BYTES c = is_head_lemma _ _ _ (known c.is_index.ensures (ap not c.if-not-is_index.false)) (too_short _ _ _ c.if-answer-lt-HEAD_BYTES.true)

pub returns : goal.returns
returns c =
    keep_done _ _ _ (known c.is_index.ensures (ap not c.if-not-is_index.false)) _ _ c.if-answer-lt-HEAD_BYTES.false _ _ _ _ _ c.put_kept.ensures c.keep_confirmation-kept.ensures
    c.index_in-x.ensures

pub index_in-x-requires : goal.index_in-x-requires
index_in-x-requires c = known_long _ _ c.is_index.ensures (ap not c.if-not-is_index.false)

pub put_kept-requires : goal.put_kept-requires
put_kept-requires c = search (rules, known_long _ _ c.is_index.ensures (ap not c.if-not-is_index.false))
