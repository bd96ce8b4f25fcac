use mathlib.Core.Path.{refl}
use Rattle.tables.specs.Index.{tables}
use Rattle.disc_load.proofs.Body.{absent, inside, ready, present}
use Rattle.disc_load.proofs.commit_body.Goals as goal

pub slice_bounds-commit-end : goal.slice_bounds-commit-end
slice_bounds-commit-end c = inside c.args.area c.args.bytes.now c.args.limit ((tables c.args.checkpoints.now c.args.frames.now c.args.store.now c.args.parts.now c.args.malformed.now c.args.hints.now c.args.confirmed.now)) c.in-At.is c.requires

pub commit-requires : goal.commit-requires
commit-requires c = ready c.args.area c.args.bytes.now c.args.limit ((tables c.args.checkpoints.now c.args.frames.now c.args.store.now c.args.parts.now c.args.malformed.now c.args.hints.now c.args.confirmed.now)) c.in-At.is c.requires refl

pub returns-in-Absent : goal.returns-in-Absent
returns-in-Absent c = absent c.args.area c.args.bytes.now c.args.limit ((tables c.args.checkpoints.now c.args.frames.now c.args.store.now c.args.parts.now c.args.malformed.now c.args.hints.now c.args.confirmed.now)) c.in-Absent.is

pub returns-in-At : goal.returns-in-At
returns-in-At c = present c.args.area c.args.bytes.now c.args.limit ((tables c.args.checkpoints.now c.args.frames.now c.args.store.now c.args.parts.now c.args.malformed.now c.args.hints.now c.args.confirmed.now)) c.in-At.is c.requires refl c.commit.ensures
