use Rattle.sheet.specs.Rows.{answer_in}
use Rattle.sheet.proofs.text.put_answer.Goals as goal

pub returns-in-Refused : goal.returns-in-Refused
unfolding answer_in
returns-in-Refused c = rw c.in-Refused.is c.put_refused.ensures

pub returns-in-Accepted : goal.returns-in-Accepted
unfolding answer_in
returns-in-Accepted c = rw c.in-Accepted.is c.put_numbers.ensures
