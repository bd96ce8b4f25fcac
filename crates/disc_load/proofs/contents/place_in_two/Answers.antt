use Rattle.disc_load.proofs.contents.Reading.{place_here, place_later}
use Rattle.disc_load.proofs.contents.place_in_two.Goals as goal

pub returns-then-e-slot : goal.returns-then-e-slot
returns-then-e-slot c = place_here _ _ c.if-e-slot.true

pub returns-else-e-slot : goal.returns-else-e-slot
returns-else-e-slot c = place_later _ _ c.if-e-slot.false c.place_in_one.ensures
