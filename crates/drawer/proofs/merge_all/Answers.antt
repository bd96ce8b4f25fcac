use Rattle.tables.specs.Index.{tables}
use Rattle.drawer.proofs.Answers.{turns_of, call_made}
use Rattle.drawer.proofs.merge_all.Goals as goal

pub turns-requires : goal.turns-requires
turns-requires c =
    let a = c.args in
    turns_of a.x (tables a.checkpoints.now a.frames.now a.store.now a.parts.now a.malformed.now a.hints.now a.confirmed.now) a.lengths.now a.files.now a.limit
    (tables a.work_checkpoints.now a.work_frames.now a.work_store.now a.work_parts.now a.work_malformed.now a.work_hints.now a.work_confirmed.now)
    c.ask-asked.ensures

pub returns : goal.returns
returns c =
    let a = c.args in
    call_made a.x (tables a.checkpoints.now a.frames.now a.store.now a.parts.now a.malformed.now a.hints.now a.confirmed.now) a.lengths.now a.files.now a.limit
    (tables a.work_checkpoints.now a.work_frames.now a.work_store.now a.work_parts.now a.work_malformed.now a.work_hints.now a.work_confirmed.now)
    c.ask-asked.ensures c.turns.ensures
