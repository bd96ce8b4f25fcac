use native.Mathlib.Omega.{arith}
use Rattle.tables.specs.Tables.{filled_to}
use Rattle.inspect.proofs.scan.Loop.{reading_start, reading_on, reading_stop, reading_end}
use Rattle.inspect.proofs.scan.Frames.{FrameRead, frame_read, frame_refused}
use borrow.Author.Rules.{rules}
use Rattle.inspect.proofs.scan.inspect_frames.Goals as goal

pub loop-init : goal.loop-init
loop-init c = (reading_start _ _ _ _ _ _ c.requires, search rules)

pub returns-in-Refused : goal.returns-in-Refused
returns-in-Refused c =
    reading_stop c.loop.invariant.0 c.loop-test.true
    (frame_refused _ _ _ c.args.body.now c.loop.here.at c.inspect_frame.ensures c.in-Refused.is)

pub overflow_add-used : goal.overflow_add-used
overflow_add-used c =
    let y = (let got : FrameRead c.args.area c.args.h.budget (filled_to c.loop.floor c.loop.used) c.args.body.now
    c.loop.here.at c.in-Header.g c.in-Header.d = frame_read _ _ _ _ _ c.inspect_frame.ensures c.loop.invariant.0.inside c.in-Header.is in got) in record { fits = omega arith }

pub loop-preserved : goal.loop-preserved
loop-preserved c =
    let y = (let got : FrameRead c.args.area c.args.h.budget (filled_to c.loop.floor c.loop.used) c.args.body.now
    c.loop.here.at c.in-Header.g c.in-Header.d = frame_read _ _ _ _ _ c.inspect_frame.ensures c.loop.invariant.0.inside c.in-Header.is in got) in (reading_on c.loop.invariant.0 c.loop-test.true y.is y.inside y.next, y.fits)

pub returns : goal.returns
returns c = reading_end c.loop.invariant.0 c.loop-test.false
