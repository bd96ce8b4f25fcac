use Rattle.tables.proofs.Records.{confirmations_as}
use mathlib.Core.Path.{◌∙◌}
use Rattle.sections.proofs.records.check_confirmations.Goals as goal

pub returns : goal.returns
returns c = c.check_numbered.ensures ∙ confirmations_as _ _ _
