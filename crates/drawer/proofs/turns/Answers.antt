use native.Mathlib.Omega.{arith}
use Rattle.field.specs.Records.{Bytes}
use Rattle.drawer.proofs.Turning.{turns_refused, at_start, at_turn, at_next, at_end}
use Rattle.drawer.proofs.turns.Goals as goal

pub returns-then-not-asked : goal.returns-then-not-asked
returns-then-not-asked c = turns_refused _ _ _ _ c.if-not-asked.true

pub loop-i-init : goal.loop-i-init
loop-i-init c = at_start (c.requires c.if-not-asked.false) ((let got : Bytes c.args.files.now = λ i. (c.type_inv.files i).fits in got))

pub turn-y-requires : goal.turn-y-requires
turn-y-requires c = at_turn c.loop-i.invariant c.loop-i-test.true (omega arith)

pub loop-i-preserved : goal.loop-i-preserved
loop-i-preserved c =
    at_next c.loop-i.invariant c.loop-i-test.true (omega arith)
    c.turn-y.ensures
    (record {
      checkpoints = c.checkpoints-1.given;
      frames = c.frames-1.given;
      store = c.store-1.given;
      parts = c.parts-1.given;
      malformed = c.malformed-1.given;
      hints = c.hints-1.given;
      confirmed = c.confirmed-1.given;
    })
    (record {
      checkpoints = c.work_checkpoints-1.given;
      frames = c.work_frames-1.given;
      store = c.work_store-1.given;
      parts = c.work_parts-1.given;
      malformed = c.work_malformed-1.given;
      hints = c.work_hints-1.given;
      confirmed = c.work_confirmed-1.given;
    })

pub returns : goal.returns
returns c = at_end c.loop-i.invariant c.loop-i-test.false

pub shape_of-checkpoints : goal.shape_of-checkpoints
shape_of-checkpoints c = c.loop-i.invariant.own.checkpoints

pub shape_of-frames : goal.shape_of-frames
shape_of-frames c = c.loop-i.invariant.own.frames

pub shape_of-store : goal.shape_of-store
shape_of-store c = c.loop-i.invariant.own.store

pub shape_of-parts : goal.shape_of-parts
shape_of-parts c = c.loop-i.invariant.own.parts

pub shape_of-malformed : goal.shape_of-malformed
shape_of-malformed c = c.loop-i.invariant.own.malformed

pub shape_of-hints : goal.shape_of-hints
shape_of-hints c = c.loop-i.invariant.own.hints

pub shape_of-confirmed : goal.shape_of-confirmed
shape_of-confirmed c = c.loop-i.invariant.own.confirmed

pub shape_of-work_checkpoints : goal.shape_of-work_checkpoints
shape_of-work_checkpoints c = c.loop-i.invariant.work.checkpoints

pub shape_of-work_frames : goal.shape_of-work_frames
shape_of-work_frames c = c.loop-i.invariant.work.frames

pub shape_of-work_store : goal.shape_of-work_store
shape_of-work_store c = c.loop-i.invariant.work.store

pub shape_of-work_parts : goal.shape_of-work_parts
shape_of-work_parts c = c.loop-i.invariant.work.parts

pub shape_of-work_malformed : goal.shape_of-work_malformed
shape_of-work_malformed c = c.loop-i.invariant.work.malformed

pub shape_of-work_hints : goal.shape_of-work_hints
shape_of-work_hints c = c.loop-i.invariant.work.hints

pub shape_of-work_confirmed : goal.shape_of-work_confirmed
shape_of-work_confirmed c = c.loop-i.invariant.work.confirmed
