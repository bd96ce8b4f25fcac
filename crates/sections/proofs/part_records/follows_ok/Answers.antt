use Rattle.tables.specs.Tables.{before}
use Rattle.rules.specs.Sections.{follows}
use Rattle.sections.proofs.part_records.follows_ok.Goals as goal

pub returns-then-first : goal.returns-then-first
unfolding follows before
returns-then-first c = rw c.if-first.true
