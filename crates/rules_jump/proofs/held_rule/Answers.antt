use borrow.Author.Rules.{rules}
use Rattle.rules_jump.specs.Names.{held_rule}
use Rattle.rules_jump.proofs.held_rule.Goals as goal

pub returns-in-None : goal.returns-in-None
unfolding held_rule
returns-in-None c = search rules

pub returns-in-Some : goal.returns-in-Some
unfolding held_rule
returns-in-Some c = search rules
