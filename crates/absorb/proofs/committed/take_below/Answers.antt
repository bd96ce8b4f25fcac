use mathlib.Core.Path.{ap₂}
use lib.Dec.{ltb}
use Rattle.absorb.proofs.questions.Twelve.{started}
use Rattle.absorb.proofs.committed.Below.{below_takes, below_taken}
use Rattle.absorb.proofs.committed.take_below.Goals as goal

pub frontier_of-before-requires : goal.frontier_of-before-requires
frontier_of-before-requires c = (started _ c.requires.area).1

pub frontier_of-front-requires : goal.frontier_of-front-requires
frontier_of-front-requires c = (started _ c.requires.area).1

pub take_malformed-requires : goal.take_malformed-requires
take_malformed-requires c = below_takes c.requires (rw c.frontier_of-front.ensures at c.count_taken-m.ensures)

pub returns : goal.returns
returns c =
    below_taken c.requires (rw c.frontier_of-front.ensures at c.count_taken-m.ensures)
    (ap₂ ltb c.frontier_of-before.ensures c.frontier_of-front.ensures) c.take_malformed.ensures
