use Rattle.tables.specs.Index.{tables}
use Rattle.coarsen.proofs.Asked.{coarsens}
use Rattle.coarsen.proofs.Done.{coarse_refused, coarse_done}
use Rattle.coarsen.proofs.coarse.Goals as goal

pub returns-then-number-ne0 : goal.returns-then-number-ne0
returns-then-number-ne0 c =
    coarse_refused c.args.x ((tables c.args.checkpoints.now c.args.frames.now c.args.store.now c.args.parts.now
    c.args.malformed.now c.args.hints.now c.args.confirmed.now)) c.args.k ((tables c.args.coarse_checkpoints.now c.args.coarse_frames.now c.args.coarse_store.now c.args.coarse_parts.now
    c.args.coarse_malformed.now c.args.coarse_hints.now c.args.coarse_confirmed.now)) c.coarse_refuses-number.ensures
    c.if-number-ne0.true

pub commit-requires : goal.commit-requires
commit-requires c =
    coarsens c.args.x ((tables c.args.checkpoints.now c.args.frames.now c.args.store.now c.args.parts.now
    c.args.malformed.now c.args.hints.now c.args.confirmed.now)) c.args.k ((tables c.args.coarse_checkpoints.now c.args.coarse_frames.now c.args.coarse_store.now c.args.coarse_parts.now
    c.args.coarse_malformed.now c.args.coarse_hints.now c.args.coarse_confirmed.now)) c.coarse_refuses-number.ensures
    c.if-number-ne0.false

pub returns : goal.returns
returns c =
    coarse_done c.args.x ((tables c.args.checkpoints.now c.args.frames.now c.args.store.now c.args.parts.now
    c.args.malformed.now c.args.hints.now c.args.confirmed.now)) c.args.k ((tables c.args.coarse_checkpoints.now c.args.coarse_frames.now c.args.coarse_store.now c.args.coarse_parts.now
    c.args.coarse_malformed.now c.args.coarse_hints.now c.args.coarse_confirmed.now)) c.coarse_refuses-number.ensures
    c.if-number-ne0.false c.commit.ensures
