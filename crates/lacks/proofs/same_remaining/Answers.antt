use Rattle.lacks.proofs.Parts.{remaining_is}
use Rattle.lacks.proofs.same_remaining.Goals as goal

pub returns : goal.returns
returns c = remaining_is c.args.a c.args.b c.ranges.a c.ranges.b
