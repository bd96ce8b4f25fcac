use Rattle.inspect.proofs.end_number.Goals as goal

pub returns : goal.returns
returns c = c.end_questions.ensures _ _ c.last_checkpoint-last.ensures c.reached-count.ensures
