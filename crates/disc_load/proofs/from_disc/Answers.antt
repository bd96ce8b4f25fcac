use Rattle.tables.specs.Index.{tables}
use Rattle.disc_load.proofs.Answers.{answer_refused, answer_ready}
use Rattle.disc_load.proofs.from_disc.Goals as goal

pub commit_body-x-requires : goal.commit_body-x-requires
commit_body-x-requires c = (c.decide-decided.ensures.ready _ _ c.in-Ready.is).holds0

pub commit_body-y-requires : goal.commit_body-y-requires
commit_body-y-requires c = (c.decide-decided.ensures.ready _ _ c.in-Ready.is).holds1

pub returns-in-Refused : goal.returns-in-Refused
returns-in-Refused c = answer_refused c.args.limit ((tables c.args.checkpoints.now c.args.frames.now c.args.store.now c.args.parts.now c.args.malformed.now c.args.hints.now c.args.confirmed.now)) ((tables c.args.other_checkpoints.now c.args.other_frames.now c.args.other_store.now c.args.other_parts.now c.args.other_malformed.now c.args.other_hints.now c.args.other_confirmed.now)) c.decide-decided.ensures c.in-Refused.is

pub returns-in-Ready : goal.returns-in-Ready
returns-in-Ready c =
    answer_ready c.args.limit ((tables c.args.checkpoints.now c.args.frames.now c.args.store.now c.args.parts.now c.args.malformed.now c.args.hints.now c.args.confirmed.now)) ((tables c.args.other_checkpoints.now c.args.other_frames.now c.args.other_store.now c.args.other_parts.now c.args.other_malformed.now c.args.other_hints.now c.args.other_confirmed.now)) (c.decide-decided.ensures.ready _ _ c.in-Ready.is) c.commit_body-x.ensures
    c.commit_body-y.ensures
