use mathlib.Core.Path.{◌∙◌}
use Rattle.tables.proofs.Kept.{given_put}
use Rattle.tables.proofs.write_given.Goals as goal

pub returns : goal.returns
returns c = c.write_u32-2.ensures ∙ rw c.write_u32.ensures (given_put _ _ _)
