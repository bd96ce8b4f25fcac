use lib.Dec.{eqb}
use Rattle.tables.specs.Tables.{checkpoints_in, before}
use Rattle.tables.specs.Files.{frames_read}
use Rattle.tables.proofs.Frames.{before_next}
use Rattle.inspect.proofs.scan.Loop.{reading_start, reading_on, reading_stop, reading_end}
use Rattle.inspect.proofs.scan.Parts.{PartRead, part_read, part_refused, last_none, last_next}
use Rattle.inspect.proofs.scan.inspect_parts.Goals as goal

pub loop-j-init : goal.loop-j-init
unfolding before
loop-j-init c = (reading_start _ _ _ _ _ _ c.requires.1, last_none _ c.no_part.ensures)

pub inspect_part-requires : goal.inspect_part-requires
inspect_part-requires c = (c.requires.0, c.loop-j.invariant.1)

pub returns-in-Refused : goal.returns-in-Refused
returns-in-Refused c =
    reading_stop c.loop-j.invariant.0 c.loop-j-test.true
    (part_refused _ _ _ _ _ _ c.args.body.now c.loop-j.here.at c.inspect_part.ensures c.in-Refused.is)

pub loop-j-preserved : goal.loop-j-preserved
loop-j-preserved c =
    let y = (let got : PartRead c.args.area c.args.h.interval (checkpoints_in c.args.h.checkpoints c.args.checkpoints.now)
    (frames_read c.args.h.frames c.args.frames.now) (before (eqb c.loop-j.j 0) c.loop-j.last.part)
    c.args.frames.now c.args.body.now c.loop-j.here.at c.in-Part.next c.in-Part.d = part_read _ _ _ _ _ _ _ _ c.inspect_part.ensures c.loop-j.invariant.0.inside c.in-Part.is in got) in (
      reading_on c.loop-j.invariant.0 c.loop-j-test.true y.is y.inside (before_next c.loop-j.j _),
      last_next c.loop-j.j y.place,
    )

pub returns : goal.returns
returns c = reading_end c.loop-j.invariant.0 c.loop-j-test.false
