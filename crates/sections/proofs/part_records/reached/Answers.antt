use Rattle.tables.proofs.Records.{reached_none, reached_some}
use Rattle.sections.proofs.part_records.reached.Goals as goal

pub returns-then-h-eq0 : goal.returns-then-h-eq0
returns-then-h-eq0 c = reached_none _ _ c.if-h-eq0.true

pub returns : goal.returns
returns c = reached_some _ _ c.if-h-eq0.false c.read_held.ensures
