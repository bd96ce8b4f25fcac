use mathlib.Core.Path.{sym, ◌∙◌}
use Rattle.load.proofs.Answers.{accepts, no_area, no_file}
use Rattle.load.proofs.decide.Goals as goal

pub returns-then-not-question1 : goal.returns-then-not-question1
returns-then-not-question1 c = no_area _ _ (sym c.question1.ensures ∙ c.if-not-question1.true)

pub decide_room-requires : goal.decide_room-requires
decide_room-requires c = accepts _ _ (sym c.question1.ensures ∙ c.if-not-question1.false) c.in-Passed.ensures

pub returns-in-Refused : goal.returns-in-Refused
returns-in-Refused c = no_file _ _ (sym c.question1.ensures ∙ c.if-not-question1.false) c.in-Refused.ensures
