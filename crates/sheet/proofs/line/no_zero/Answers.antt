use mathlib.Core.Path.{ap, ◌∙◌}
use mathlib.Core.Bool.{not}
use Rattle.sheet.proofs.Lines.{no_zero_is}
use Rattle.sheet.proofs.line.no_zero.Goals as goal

pub returns : goal.returns
returns c = ap not c.contains.ensures.value ∙ no_zero_is c.args.s.now
