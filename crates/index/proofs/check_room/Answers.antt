use mathlib.Core.Path.{sym, ◌∙◌}
use Rattle.index.proofs.check_room.Goals as goal

pub has_room-requires : goal.has_room-requires
has_room-requires c = sym c.question1.ensures ∙ c.if-not-question1.false
