use Rattle.rules.specs.Tests.{bind}
use Rattle.sizes.specs.Sizes.{sized_of}
use Rattle.disc_load.specs.DiscLoad.{slot_sizes_of}
use Rattle.disc_load.specs.Steps.{body_sized_of}
use Rattle.disc_load.proofs.table_sizes.body_sized.Goals as goal

pub returns-in-Refused : goal.returns-in-Refused
unfolding body_sized_of sized_of bind
returns-in-Refused c = rw c.in-Refused.is

pub returns-in-Sizes : goal.returns-in-Sizes
unfolding body_sized_of slot_sizes_of sized_of bind
returns-in-Sizes c = rw c.in-Sizes.is
