use Rattle.inspect.specs.Tails.{found_by}
use Rattle.inspect.proofs.found_by.Goals as goal

pub returns : goal.returns
unfolding found_by
returns c = rw (c.ending_of.ensures.0, c.fingerprint_of.ensures)
