use borrow.Author.Rules.{rules}
use Rattle.rules_jump.specs.Names.{plan_rule}
use Rattle.rules_jump.proofs.plan_rule.Goals as goal

pub returns-in-Start : goal.returns-in-Start
unfolding plan_rule
returns-in-Start c = search rules

pub returns-in-At : goal.returns-in-At
unfolding plan_rule
returns-in-At c = rw c.in-At.is c.held_rule.ensures

pub returns-in-End : goal.returns-in-End
unfolding plan_rule
returns-in-End c = search rules
