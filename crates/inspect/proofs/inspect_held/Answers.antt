use Rattle.tables.specs.Tables.{checkpoints_in}
use Rattle.tables.specs.Files.{frames_read}
use Rattle.inspect.proofs.Sections.{TookParts, parts_taken, taken_refused}
use Rattle.inspect.proofs.Tails.{stops, goes_on}
use Rattle.inspect.specs.Tails.{from_parts}
use Rattle.inspect.proofs.inspect_held.Goals as goal

pub inspect_end-requires : goal.inspect_end-requires
inspect_end-requires c =
    let y = (let got : TookParts c.args.area c.args.h (checkpoints_in c.args.h.checkpoints c.args.checkpoints.now)
    (frames_read c.args.h.frames c.args.frames.now) c.args.body.now c.args.c.at c.in-Behind.d = parts_taken c.args.area c.args.h _ _ _ _ c.requires.3 c.inspect_parts.ensures c.in-Behind.is in got) in (c.requires.0, c.requires.1.table, rw c.behind-parts.ensures y.room, y.inside)

pub returns-in-Refused : goal.returns-in-Refused
unfolding from_parts
returns-in-Refused c = stops _ (taken_refused _ c.inspect_parts.ensures c.in-Refused.is)

pub returns-in-Behind : goal.returns-in-Behind
unfolding from_parts
returns-in-Behind c =
    goes_on _ ((let got : TookParts c.args.area c.args.h (checkpoints_in c.args.h.checkpoints c.args.checkpoints.now)
    (frames_read c.args.h.frames c.args.frames.now) c.args.body.now c.args.c.at c.in-Behind.d = parts_taken c.args.area c.args.h _ _ _ _ c.requires.3 c.inspect_parts.ensures c.in-Behind.is in got)).is (rw (c.requires.2, c.behind-parts.ensures) at c.inspect_end.ensures)
