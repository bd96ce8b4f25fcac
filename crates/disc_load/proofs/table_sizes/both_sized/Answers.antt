use Rattle.rules.specs.Tests.{bind}
use Rattle.disc_load.specs.Steps.{body_sized_of}
use Rattle.disc_load.specs.DiscLoad.{both_sizes, disc_sized_of}
use Rattle.disc_load.proofs.table_sizes.both_sized.Goals as goal

pub returns-in-Refused : goal.returns-in-Refused
unfolding both_sizes body_sized_of disc_sized_of bind
returns-in-Refused c = rw c.in-Refused.is

pub returns-in-Refused-second : goal.returns-in-Refused-second
unfolding both_sizes body_sized_of disc_sized_of bind
returns-in-Refused-second c = rw (c.in-Passed.is, c.in-Refused-second.is)

pub returns-in-Passed-second : goal.returns-in-Passed-second
unfolding both_sizes body_sized_of disc_sized_of bind
returns-in-Passed-second c = rw (c.in-Passed.is, c.in-Passed-second.is)
