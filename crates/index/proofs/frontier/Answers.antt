use native.Mathlib.Omega.{arith}
use mathlib.Core.Path.{sym, ◌∙◌}
use Rattle.index.proofs.Questions.{range}
use Rattle.index.proofs.frontier.Goals as goal

pub frontier_of-requires : goal.frontier_of-requires
frontier_of-requires c = (let r = range _ (sym c.question1.ensures ∙ c.if-not-question1.false) in omega arith)
