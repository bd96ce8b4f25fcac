use Rattle.coarsen.proofs.questions.count_of.Goals as goal

pub returns : goal.returns
returns c = c.counted.ensures _ c.last_kept.ensures
