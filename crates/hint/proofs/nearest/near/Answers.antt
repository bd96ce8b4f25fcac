use Rattle.std.proofs.Common.{refl, arith}
use Rattle.hint.proofs.nearest.Place.{near_is}
use Rattle.hint.proofs.nearest.near.Goals as goal

pub returns : goal.returns
returns c = near_is c.args.first c.args.h c.saturating_sub-low.ensures refl (omega arith) (omega arith) refl
