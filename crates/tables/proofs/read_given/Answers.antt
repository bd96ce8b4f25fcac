use Rattle.tables.proofs.Records.{hint_take}
use native.Mathlib.Omega.{arith}
use mathlib.Core.Path.{◌∙◌}
use Rattle.tables.proofs.read_given.Goals as goal

pub returns : goal.returns
returns c = c.hint_at.ensures ∙ hint_take 8 _ (omega arith)
