use native.Mathlib.Omega.{arith}
use Rattle.sections.proofs.Questions.{ordered}
use Rattle.inspect.proofs.Sections.{TookFrames, frames_taken, taken_refused}
use Rattle.inspect.proofs.Tails.{stops, goes_on}
use Rattle.inspect.specs.Tails.{from_frames}
use borrow.Author.Rules.{rules}
use Rattle.inspect.proofs.inspect_stored.Goals as goal

pub overflow_sub-used : goal.overflow_sub-used
overflow_sub-used c = let y = (let got : TookFrames c.args.area c.args.h c.args.body.now c.args.c.at c.in-Behind.d = frames_taken c.args.area c.args.h _ _ c.requires.2 c.inspect_frames.ensures c.in-Behind.is in got) in search rules

pub overflow_sub-used-in-Behind : goal.overflow_sub-used-in-Behind
overflow_sub-used-in-Behind c = let y = (let got : TookFrames c.args.area c.args.h c.args.body.now c.args.c.at c.in-Behind.d = frames_taken c.args.area c.args.h _ _ c.requires.2 c.inspect_frames.ensures c.in-Behind.is in got) in search rules

pub inspect_held-requires : goal.inspect_held-requires
inspect_held-requires c =
    let y = (let got : TookFrames c.args.area c.args.h c.args.body.now c.args.c.at c.in-Behind.d = frames_taken c.args.area c.args.h _ _ c.requires.2 c.inspect_frames.ensures c.in-Behind.is in got) in
    let o = ordered c.args.area c.requires.0 in (
      c.requires.0,
      record { small = omega (arith, o.rises, o.small); table = c.requires.1; inside = rw c.behind-frames.ensures y.room },
      rw c.behind-frames.ensures (omega (arith, y.bytes)),
      y.inside,
    )

pub returns-in-Refused : goal.returns-in-Refused
unfolding from_frames
returns-in-Refused c = stops _ (taken_refused _ c.inspect_frames.ensures c.in-Refused.is)

pub returns-in-Behind : goal.returns-in-Behind
unfolding from_frames
returns-in-Behind c = goes_on _ ((let got : TookFrames c.args.area c.args.h c.args.body.now c.args.c.at c.in-Behind.d = frames_taken c.args.area c.args.h _ _ c.requires.2 c.inspect_frames.ensures c.in-Behind.is in got)).is (rw c.behind-frames.ensures at c.inspect_held.ensures)
