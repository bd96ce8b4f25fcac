use mathlib.Core.Bool.{not}
use mathlib.Core.Path.{ap}
use Rattle.player_record.specs.PlayerRecord.{absorb_call}
use Rattle.blocks.proofs.calls.Blocks.{no_head, is_head_lemma, known, known_long}
use Rattle.player_record.proofs.Answers.{absorb_done}
use borrow.Author.Rules.{rules}
use Rattle.player_record.proofs.seek_raw_absorb.Goals as goal

pub returns-then-not-is_index : goal.returns-then-not-is_index
unfolding absorb_call
returns-then-not-is_index c = no_head _ _ _ c.is_index.ensures (ap not c.if-not-is_index.true)

pub returns-then-not-is_recorder : goal.returns-then-not-is_recorder
unfolding absorb_call
returns-then-not-is_recorder c = is_head_lemma _ _ _ (known c.is_index.ensures (ap not c.if-not-is_index.false)) (no_head _ _ _ c.is_recorder.ensures (ap not c.if-not-is_recorder.true))

pub put_absorbed-requires : goal.put_absorbed-requires
put_absorbed-requires c = search (rules, known_long _ _ c.is_index.ensures (ap not c.if-not-is_index.false), known_long _ _ c.is_recorder.ensures (ap not c.if-not-is_recorder.false))

pub returns : goal.returns
returns c =
    absorb_done _ _ _ _ _ (known c.is_index.ensures (ap not c.if-not-is_index.false)) (known c.is_recorder.ensures (ap not c.if-not-is_recorder.false)) _ _ _ _ _ _ _ _ _ c.put_absorbed.ensures c.absorb-made.ensures
    c.index_in-x.ensures c.recorder_in-r.ensures c.image_given-id.ensures

pub index_in-x-requires : goal.index_in-x-requires
index_in-x-requires c = known_long _ _ c.is_index.ensures (ap not c.if-not-is_index.false)

pub recorder_in-r-requires : goal.recorder_in-r-requires
recorder_in-r-requires c = known_long _ _ c.is_recorder.ensures (ap not c.if-not-is_recorder.false)
