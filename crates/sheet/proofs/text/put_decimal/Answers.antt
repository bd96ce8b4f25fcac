use Rattle.sheet.specs.Text.{puts}
use Rattle.sheet.proofs.Written.{cut_all}
use native.Mathlib.Omega.{arith}
use mathlib.Core.Path.{ap, ◌∙◌}
use Rattle.sheet.proofs.text.put_decimal.Goals as goal

pub returns : goal.returns
returns c = c.put_bytes.ensures ∙ ap (puts _) (cut_all c.spell-from.new.text c.spell-from.result (omega arith) ∙ c.spell-from.ensures.0)
