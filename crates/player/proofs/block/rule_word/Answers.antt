use Rattle.player.proofs.block.rule_word.Goals as goal

pub returns : goal.returns
returns c = rw (c.plan_rule_number.ensures, c.plan_rule.ensures)
