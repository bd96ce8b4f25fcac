use mathlib.Core.List.{[]}
use Rattle.disc_load.proofs.contents.Reading.{place_here, place_none}
use Rattle.disc_load.proofs.contents.place_in_one.Goals as goal

pub returns-then-e-slot : goal.returns-then-e-slot
returns-then-e-slot c = place_here _ [] c.if-e-slot.true

pub returns-else-e-slot : goal.returns-else-e-slot
returns-else-e-slot c = place_none _ c.if-e-slot.false
