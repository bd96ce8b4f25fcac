-- The definitions of change request 7 give what the examples should be. Assumes nothing.
use mathlib.Core.Path.{refl}
use Rattle.rules.specs.examples.Starred.{Hold}
use Rattle.rules.proofs.Examples.{evaluated}
use Rattle.rules_jump.specs.Names.{held_rule, plan_rule, chosen_by, start_rule, density_rule, named_end, local_rule}
use Rattle.rules_jump.specs.Names.{end_rule, named, named_at, named_hint, plan_rule_number, start_rule_number, end_rule_number}
use Rattle.rules_jump.specs.JumpExamples.{ruled_numbers, named_numbers, plans, named_hints}

pub plans_hold : Hold plans
unfolding evaluated held_rule plan_rule plan_rule_number ruled_numbers plans
plans_hold = refl

pub named_hints_hold : Hold named_hints
unfolding evaluated chosen_by start_rule density_rule named_end local_rule end_rule named named_at named_hint start_rule_number end_rule_number named_numbers named_hints
named_hints_hold = refl
