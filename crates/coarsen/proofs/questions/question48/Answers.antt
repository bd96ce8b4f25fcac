use Rattle.coarsen.specs.Steps.{fits_in}
use Rattle.coarsen.proofs.questions.question48.Goals as goal

pub count_of-c-requires : goal.count_of-c-requires
count_of-c-requires c = record { there = c.requires.checkpoints; ratio = c.requires.ratio; kept = c.kept-m.ensures }

pub returns : goal.returns
unfolding fits_in
returns c = rw (c.last_below.ensures, c.frontier_of-front.ensures, c.count_of-c.ensures, c.kept-m.ensures)
