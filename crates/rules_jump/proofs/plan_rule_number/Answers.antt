use borrow.Author.Rules.{rules}
use Rattle.rules_jump.specs.Names.{plan_rule_number}
use Rattle.rules_jump.proofs.plan_rule_number.Goals as goal

pub returns-in-AreaStart : goal.returns-in-AreaStart
unfolding plan_rule_number
returns-in-AreaStart c = search rules

pub returns-in-Checkpoint : goal.returns-in-Checkpoint
unfolding plan_rule_number
returns-in-Checkpoint c = search rules

pub returns-in-HeldPart : goal.returns-in-HeldPart
unfolding plan_rule_number
returns-in-HeldPart c = search rules

pub returns-in-Ending : goal.returns-in-Ending
unfolding plan_rule_number
returns-in-Ending c = search rules
