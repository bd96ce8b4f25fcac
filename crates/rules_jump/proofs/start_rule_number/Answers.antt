use borrow.Author.Rules.{rules}
use Rattle.rules_jump.specs.Names.{start_rule_number}
use Rattle.rules_jump.proofs.start_rule_number.Goals as goal

pub returns-in-Confirmed : goal.returns-in-Confirmed
unfolding start_rule_number
returns-in-Confirmed c = search rules

pub returns-in-Nearest : goal.returns-in-Nearest
unfolding start_rule_number
returns-in-Nearest c = search rules
