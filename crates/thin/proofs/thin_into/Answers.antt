use Rattle.thin.proofs.Steps.{thin_room, thinned, thinned_few}
use Rattle.thin.proofs.thin_into.Goals as goal

pub returns-then-n-most : goal.returns-then-n-most
returns-then-n-most c = thinned_few _ _ _ _ (λ i. (c.type_inv.src i).fits) c.requires.0 c.if-n-most.true c.copy_first.ensures

pub keep_into-requires : goal.keep_into-requires
keep_into-requires c = (c.requires.0, thin_room _ _ _ c.cutoff.ensures c.requires.1)

pub returns : goal.returns
returns c = thinned _ _ _ c.cutoff.ensures c.keep_into.ensures
