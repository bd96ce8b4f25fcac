use Rattle.tables.specs.Index.{tables}
use Rattle.disc_load.proofs.ask.Deciding.{bodies}
use Rattle.disc_load.proofs.ask.decide_bodies.Goals as goal

pub ask_body-asked-requires : goal.ask_body-asked-requires
ask_body-asked-requires c = c.requires.table.inside0

pub ask_body-other_asked-requires : goal.ask_body-other_asked-requires
ask_body-other_asked-requires c = c.requires.table.inside1

pub returns : goal.returns
returns c = bodies c.args.limit ((tables c.args.checkpoints.now c.args.frames.now c.args.store.now c.args.parts.now c.args.malformed.now c.args.hints.now c.args.confirmed.now)) ((tables c.args.other_checkpoints.now c.args.other_frames.now c.args.other_store.now c.args.other_parts.now c.args.other_malformed.now c.args.other_hints.now c.args.other_confirmed.now)) c.requires _ _ c.ask_body-asked.ensures c.ask_body-other_asked.ensures c.decide_by.ensures
