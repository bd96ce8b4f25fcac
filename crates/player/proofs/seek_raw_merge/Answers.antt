use mathlib.Core.Bool.{not}
use mathlib.Core.Path.{ap}
use Rattle.tables.specs.Index.{tables}
use Rattle.player.specs.Player.{merge_call, merge_call_as}
use Rattle.blocks.proofs.calls.Blocks.{no_head, is_head_lemma, known, known_long}
use Rattle.view.proofs.Roles.{no_workshop, is_workshop_lemma}
use Rattle.player.proofs.Answers.{merge_done}
use borrow.Author.Rules.{rules}
use Rattle.player.proofs.seek_raw_merge.Goals as goal

pub returns-then-not-is_workshop : goal.returns-then-not-is_workshop
unfolding merge_call_as
returns-then-not-is_workshop c = no_workshop _ _ _ c.is_workshop.ensures (ap not c.if-not-is_workshop.true)

pub returns-then-not-is_index : goal.returns-then-not-is_index
unfolding merge_call merge_call_as
returns-then-not-is_index c =
    is_workshop_lemma _ _ _ c.is_workshop.ensures (ap not c.if-not-is_workshop.false)
    (no_head _ _ _ c.is_index.ensures (ap not c.if-not-is_index.true))

pub returns-then-not-is_index-2 : goal.returns-then-not-is_index-2
unfolding merge_call merge_call_as
returns-then-not-is_index-2 c =
    is_workshop_lemma _ _ _ c.is_workshop.ensures (ap not c.if-not-is_workshop.false)
    (is_head_lemma _ _ _ (known c.is_index.ensures (ap not c.if-not-is_index.false)) (no_head _ _ _ c.is_index-2.ensures (ap not c.if-not-is_index-2.true)))

pub returns : goal.returns
unfolding merge_call_as
returns c =
    is_workshop_lemma _ _ _ c.is_workshop.ensures (ap not c.if-not-is_workshop.false)
    (merge_done c.args.head.now _ _ (known c.is_index.ensures (ap not c.if-not-is_index.false)) c.args.other.now (known c.is_index-2.ensures (ap not c.if-not-is_index-2.false)) c.index_in-x.result
    c.index_in-y.result c.index_in-y.ensures ((tables c.args.checkpoints.now c.args.frames.now c.args.store.now c.args.parts.now c.args.malformed.now c.args.hints.now c.args.confirmed.now)) ((tables c.args.other_checkpoints.now c.args.other_frames.now c.args.other_store.now c.args.other_parts.now c.args.other_malformed.now
    c.args.other_hints.now c.args.other_confirmed.now)) _ c.merge-made.result c.put_made.ensures
    c.merge-made.ensures c.index_in-x.ensures)

pub index_in-x-requires : goal.index_in-x-requires
index_in-x-requires c = known_long _ _ c.is_index.ensures (ap not c.if-not-is_index.false)

pub index_in-y-requires : goal.index_in-y-requires
index_in-y-requires c = known_long _ _ c.is_index-2.ensures (ap not c.if-not-is_index-2.false)

pub put_made-requires : goal.put_made-requires
put_made-requires c = search (rules, known_long _ _ c.is_index.ensures (ap not c.if-not-is_index.false))
