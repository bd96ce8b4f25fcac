use Rattle.examples.specs.Same.{absence_number}
use Rattle.examples.proofs.records.absence_number.Goals as goal

pub returns-in-NoFrame : goal.returns-in-NoFrame
unfolding absence_number
returns-in-NoFrame c = simp c.in-NoFrame.is

pub returns-in-Missing : goal.returns-in-Missing
unfolding absence_number
returns-in-Missing c = simp c.in-Missing.is
