use Rattle.merge.proofs.take.Hints.{hints_done}
use Rattle.merge.proofs.take.join_hints.Goals as goal

pub returns : goal.returns
returns c = hints_done _ _ _ c.requires c.merge_hints.ensures.0 c.merge_hints.ensures.1
