use Rattle.save.proofs.write.Frames.{frames_start, frame_room, frames_on, frames_end}
use native.Mathlib.Omega.{arith}
use Rattle.save.proofs.write.write_frames.Goals as goal

pub loop-k-init : goal.loop-k-init
loop-k-init c = frames_start _ _ _ _ _ c.requires.1 c.requires.2

pub put_frame-e-requires : goal.put_frame-e-requires
put_frame-e-requires c = let r = frame_room _ _ _ _ _ c.loop-k.invariant c.loop-k-test.true in (omega (arith, c.requires, c.loop-k-test.true), r.0, r.1)

pub overflow_add-at : goal.overflow_add-at
overflow_add-at c = let r = frame_room _ _ _ _ _ c.loop-k.invariant c.loop-k-test.true in omega (arith, c.put_frame-e.ensures.0)

pub overflow_add-at-in-loop-k : goal.overflow_add-at-in-loop-k
overflow_add-at-in-loop-k c = let r = frame_room _ _ _ _ _ c.loop-k.invariant c.loop-k-test.true in omega (arith, c.put_frame-e.ensures.0)

pub overflow_add-from : goal.overflow_add-from
overflow_add-from c = let r = frame_room _ _ _ _ _ c.loop-k.invariant c.loop-k-test.true in omega (arith, c.put_frame-e.ensures.0, r.1, c.ranges, c.well_formed)

pub loop-k-preserved : goal.loop-k-preserved
loop-k-preserved c = frames_on _ _ _ _ _ c.loop-k.invariant c.loop-k-test.true c.put_frame-e.ensures.0 c.put_frame-e.ensures.1

pub shape_of-out : goal.shape_of-out
shape_of-out c = c.loop-k.invariant.same

pub returns : goal.returns
returns c = frames_end _ _ _ _ _ c.loop-k.invariant c.loop-k-test.false c.requires.2
