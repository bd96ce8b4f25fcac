use mathlib.Core.Path.{sym, ◌∙◌}
use Rattle.absorb.proofs.refusal.Later.{started, joinable, joins_by}
use Rattle.absorb.proofs.refusal.check_later.Goals as goal

pub question10-requires : goal.question10-requires
question10-requires c = started _ c.requires.area

pub question11-requires : goal.question11-requires
question11-requires c = (c.requires.checkpoints, c.requires.theirs, joins_by _ _ (sym c.question10.ensures ∙ c.if-not-question10.false))

pub question12-requires : goal.question12-requires
question12-requires c = joinable c.requires (joins_by _ _ (sym c.question10.ensures ∙ c.if-not-question10.false))
