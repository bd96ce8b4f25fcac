use Rattle.disc_load.specs.Steps.{decided_by}
use Rattle.disc_load.proofs.ask.decide_by.Goals as goal

pub returns-in-Refused : goal.returns-in-Refused
unfolding decided_by
returns-in-Refused c = cc

pub returns-in-Refused-other : goal.returns-in-Refused-other
unfolding decided_by
returns-in-Refused-other c = cc

pub returns-in-Passed-other : goal.returns-in-Passed-other
unfolding decided_by
returns-in-Passed-other c = cc
