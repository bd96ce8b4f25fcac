use native.Mathlib.Omega.{arith}
use Rattle.tables.proofs.Frames.{parts_are}
use Rattle.sections.proofs.part_records.check_parts.Goals as goal

pub returns-then-walk_parts : goal.returns-then-walk_parts
returns-then-walk_parts c = λ store. grind (arith, parts_are c.args.area c.args.interval c.args.first c.args.n c.args.f c.args.h c.args.checkpoints.now c.args.headers.now c.args.parts.now store)

pub returns-else-walk_parts : goal.returns-else-walk_parts
returns-else-walk_parts c = λ store. grind (arith, parts_are c.args.area c.args.interval c.args.first c.args.n c.args.f c.args.h c.args.checkpoints.now c.args.headers.now c.args.parts.now store)
