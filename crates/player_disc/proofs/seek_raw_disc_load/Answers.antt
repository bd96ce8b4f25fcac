use mathlib.Core.Bool.{not}
use mathlib.Core.Path.{ap}
use Rattle.tables.specs.Index.{tables}
use Rattle.blocks.specs.Calls.{given_area}
use Rattle.player_disc.specs.PlayerDisc.{disc_load_call, disc_load_call_as}
use Rattle.blocks.proofs.calls.Blocks.{too_short, long_enough}
use Rattle.view.proofs.Roles.{no_workshop, is_workshop_lemma}
use Rattle.player_disc.proofs.Answers.{load_done}
use borrow.Author.Rules.{rules}
use Rattle.player_disc.proofs.seek_raw_disc_load.Goals as goal

pub returns-then-not-is_workshop : goal.returns-then-not-is_workshop
unfolding disc_load_call_as
returns-then-not-is_workshop c = no_workshop _ _ _ c.is_workshop.ensures (ap not c.if-not-is_workshop.true)

pub returns-then-head-lt-HEAD_BYTES : goal.returns-then-head-lt-HEAD_BYTES
unfolding disc_load_call disc_load_call_as
returns-then-head-lt-HEAD_BYTES c = is_workshop_lemma _ _ _ c.is_workshop.ensures (ap not c.if-not-is_workshop.false) (too_short _ _ _ c.if-head-lt-HEAD_BYTES.true)

pub returns-then-other-lt-HEAD_BYTES : goal.returns-then-other-lt-HEAD_BYTES
unfolding disc_load_call disc_load_call_as
returns-then-other-lt-HEAD_BYTES c =
    is_workshop_lemma _ _ _ c.is_workshop.ensures (ap not c.if-not-is_workshop.false)
    (long_enough _ _ _ c.if-head-lt-HEAD_BYTES.false (too_short _ _ _ c.if-other-lt-HEAD_BYTES.true))

pub returns-then-answer-lt-HEAD_BYTES : goal.returns-then-answer-lt-HEAD_BYTES
unfolding disc_load_call disc_load_call_as
returns-then-answer-lt-HEAD_BYTES c =
    is_workshop_lemma _ _ _ c.is_workshop.ensures (ap not c.if-not-is_workshop.false)
    (long_enough _ _ _ c.if-head-lt-HEAD_BYTES.false (long_enough _ _ _ c.if-other-lt-HEAD_BYTES.false (too_short _ _ _ c.if-answer-lt-HEAD_BYTES.true)))

pub put_loaded-requires : goal.put_loaded-requires
put_loaded-requires c = search (rules, c.if-head-lt-HEAD_BYTES.false, c.if-other-lt-HEAD_BYTES.false, c.if-answer-lt-HEAD_BYTES.false)

pub returns : goal.returns
unfolding disc_load_call_as
returns c =
    is_workshop_lemma _ _ _ c.is_workshop.ensures (ap not c.if-not-is_workshop.false)
    (load_done c.args.head.now c.args.other.now c.args.answer.now _ _ _ _ c.if-head-lt-HEAD_BYTES.false c.if-other-lt-HEAD_BYTES.false c.if-answer-lt-HEAD_BYTES.false
    ((given_area c.args.slot0 c.args.channels0 c.args.key_start0 c.args.key_end0 c.args.sectors0 c.args.start0 c.args.end0)) ((given_area c.args.slot1 c.args.channels1 c.args.key_start1 c.args.key_end1 c.args.sectors1 c.args.start1 c.args.end1)) c.area_from-area0.result c.area_from-area1.result c.args.file.now c.args.limit ((tables c.args.checkpoints.now c.args.frames.now c.args.store.now c.args.parts.now c.args.malformed.now c.args.hints.now c.args.confirmed.now))
    ((tables c.args.other_checkpoints.now c.args.other_frames.now c.args.other_store.now c.args.other_parts.now c.args.other_malformed.now
    c.args.other_hints.now c.args.other_confirmed.now)) _ _ c.from_disc-loaded.result c.put_loaded.ensures c.from_disc-loaded.ensures c.area_from-area0.ensures
    c.area_from-area1.ensures)
