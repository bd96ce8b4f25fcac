use mathlib.Core.Bool.{not}
use mathlib.Core.Path.{ap}
use Rattle.tables.specs.Index.{tables}
use Rattle.player.specs.Player.{merge_all_call, merge_all_call_as}
use Rattle.blocks.proofs.calls.Blocks.{no_head, known, known_long}
use Rattle.view.proofs.Roles.{no_workshop, is_workshop_lemma}
use Rattle.player.proofs.drawer_calls.Answers.{merge_all_done}
use Rattle.player.proofs.drawer_calls.seek_raw_merge_all.Goals as goal

pub returns-then-not-is_workshop : goal.returns-then-not-is_workshop
unfolding merge_all_call_as
returns-then-not-is_workshop c = no_workshop _ _ _ c.is_workshop.ensures (ap not c.if-not-is_workshop.true)

pub returns-then-not-is_index : goal.returns-then-not-is_index
unfolding merge_all_call merge_all_call_as
returns-then-not-is_index c =
    is_workshop_lemma _ _ _ c.is_workshop.ensures (ap not c.if-not-is_workshop.false)
    (no_head _ _ _ c.is_index.ensures (ap not c.if-not-is_index.true))

pub returns : goal.returns
unfolding merge_all_call_as
returns c =
    is_workshop_lemma _ _ _ c.is_workshop.ensures (ap not c.if-not-is_workshop.false)
    (merge_all_done c.args.head.now _ _ (known c.is_index.ensures (ap not c.if-not-is_index.false)) c.index_in-x.result
    c.args.lengths.now c.args.files.now c.args.limit ((tables c.args.checkpoints.now c.args.frames.now c.args.store.now c.args.parts.now c.args.malformed.now c.args.hints.now c.args.confirmed.now)) ((tables c.args.work_checkpoints.now c.args.work_frames.now c.args.work_store.now c.args.work_parts.now c.args.work_malformed.now c.args.work_hints.now c.args.work_confirmed.now)) _ c.merge_all-made.result c.put_made.ensures
    c.merge_all-made.ensures c.index_in-x.ensures)

pub index_in-x-requires : goal.index_in-x-requires
index_in-x-requires c = known_long _ _ c.is_index.ensures (ap not c.if-not-is_index.false)

pub put_made-requires : goal.put_made-requires
put_made-requires c =
    known_long _ _ c.is_index.ensures (ap not c.if-not-is_index.false)
