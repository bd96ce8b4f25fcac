use Rattle.absorb.proofs.committed.Below.{taken_count}
use Rattle.absorb.proofs.committed.count_taken.Goals as goal

pub returns : goal.returns
returns c = taken_count _ c.args.given.now c.count_below.ensures c.min.ensures
