use mathlib.Core.Bool.{not}
use mathlib.Core.Path.{ap}
use Rattle.tables.specs.Index.{tables}
use Rattle.player.specs.Player.{coarse_call}
use Rattle.blocks.proofs.calls.Blocks.{too_short, no_head, is_head_lemma, known, known_long}
use Rattle.player.proofs.coarse_calls.Answers.{coarse_done}
use Rattle.player.proofs.coarse_calls.seek_raw_coarse.Goals as goal

pub returns-then-not-is_index : goal.returns-then-not-is_index
unfolding coarse_call
returns-then-not-is_index c = no_head _ _ _ c.is_index.ensures (ap not c.if-not-is_index.true)

pub returns-then-coarse-lt-HEAD_BYTES : goal.returns-then-coarse-lt-HEAD_BYTES
unfolding coarse_call
returns-then-coarse-lt-HEAD_BYTES c = is_head_lemma _ _ _ (known c.is_index.ensures (ap not c.if-not-is_index.false)) (too_short _ _ _ c.if-coarse-lt-HEAD_BYTES.true)

pub returns : goal.returns
returns c =
    coarse_done c.args.coarse.now _ _ c.if-coarse-lt-HEAD_BYTES.false c.args.head.now (known c.is_index.ensures (ap not c.if-not-is_index.false)) c.index_in-x.result
    _ ((tables c.args.checkpoints.now c.args.frames.now c.args.store.now c.args.parts.now c.args.malformed.now c.args.hints.now c.args.confirmed.now)) ((tables c.args.coarse_checkpoints.now c.args.coarse_frames.now c.args.coarse_store.now c.args.coarse_parts.now c.args.coarse_malformed.now
    c.args.coarse_hints.now c.args.coarse_confirmed.now)) _ c.coarse-made.result c.put_made.ensures c.coarse-made.ensures c.index_in-x.ensures

pub index_in-x-requires : goal.index_in-x-requires
index_in-x-requires c = known_long _ _ c.is_index.ensures (ap not c.if-not-is_index.false)
