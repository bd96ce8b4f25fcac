use Rattle.load.proofs.Answers.{answer_refused, answer_ready}
use Rattle.load.proofs.from_bytes.Goals as goal

pub commit-requires : goal.commit-requires
commit-requires c = c.decide-decided.ensures.ready _ _ c.in-Ready.is

pub returns-in-Refused : goal.returns-in-Refused
returns-in-Refused c = answer_refused _ _ c.decide-decided.ensures c.in-Refused.is

pub returns-in-Ready : goal.returns-in-Ready
returns-in-Ready c = answer_ready _ _ (c.decide-decided.ensures.ready _ _ c.in-Ready.is) c.commit.ensures
