use mathlib.Core.Path.{refl}
use Rattle.rules.specs.Refusals.{number_in}
use Rattle.rules.proofs.Refusals.{number_ne0}
use Rattle.tables.specs.Index.{tables}
use Rattle.merge.proofs.Steps.{merge_refused, merge_done}
use Rattle.merge.proofs.questions.Refusal.{joins}
use Rattle.merge.proofs.merge.Goals as goal

pub returns-in-Err : goal.returns-in-Err
unfolding number_in
returns-in-Err c =
    rw c.from.ensures
    (merge_refused c.args.x (tables c.args.checkpoints.now c.args.frames.now c.args.store.now c.args.parts.now
    c.args.malformed.now c.args.hints.now c.args.confirmed.now) c.args.y (tables c.args.other_checkpoints.now c.args.other_frames.now c.args.other_store.now c.args.other_parts.now
    c.args.other_malformed.now c.args.other_hints.now c.args.other_confirmed.now) (rw c.in-Err.is at c.check_merge.ensures) (number_ne0 _))

pub commit-requires : goal.commit-requires
unfolding number_in
commit-requires c =
    joins c.args.x (tables c.args.checkpoints.now c.args.frames.now c.args.store.now c.args.parts.now
    c.args.malformed.now c.args.hints.now c.args.confirmed.now) c.args.y (tables c.args.other_checkpoints.now c.args.other_frames.now c.args.other_store.now c.args.other_parts.now
    c.args.other_malformed.now c.args.other_hints.now c.args.other_confirmed.now) (rw c.in_default.is at c.check_merge.ensures) refl

pub returns : goal.returns
unfolding number_in
returns c =
    merge_done c.args.x (tables c.args.checkpoints.now c.args.frames.now c.args.store.now c.args.parts.now
    c.args.malformed.now c.args.hints.now c.args.confirmed.now) c.args.y (tables c.args.other_checkpoints.now c.args.other_frames.now c.args.other_store.now c.args.other_parts.now
    c.args.other_malformed.now c.args.other_hints.now c.args.other_confirmed.now) (rw c.in_default.is at c.check_merge.ensures) refl c.commit.ensures
