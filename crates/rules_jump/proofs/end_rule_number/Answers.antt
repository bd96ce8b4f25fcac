use borrow.Author.Rules.{rules}
use Rattle.rules_jump.specs.Names.{end_rule_number}
use Rattle.rules_jump.proofs.end_rule_number.Goals as goal

pub returns-in-Later : goal.returns-in-Later
unfolding end_rule_number
returns-in-Later c = search rules

pub returns-in-Local : goal.returns-in-Local
unfolding end_rule_number
returns-in-Local c = search rules

pub returns-in-Average : goal.returns-in-Average
unfolding end_rule_number
returns-in-Average c = search rules

pub returns-in-AreaEnd : goal.returns-in-AreaEnd
unfolding end_rule_number
returns-in-AreaEnd c = search rules
