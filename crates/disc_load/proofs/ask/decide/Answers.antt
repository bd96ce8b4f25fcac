use mathlib.Core.Path.{sym, ◌∙◌}
use Rattle.disc_load.proofs.ask.Deciding.{no_areas, no_table, located}
use Rattle.disc_load.proofs.ask.decide.Goals as goal

pub returns-then-not-areas_ok : goal.returns-then-not-areas_ok
returns-then-not-areas_ok c = no_areas _ _ _ c.areas_ok.ensures c.if-not-areas_ok.true

pub decide_bodies-requires : goal.decide_bodies-requires
decide_bodies-requires c = located c.areas_ok.ensures c.if-not-areas_ok.false (sym c.in-Lists.is ∙ c.read_contents.ensures)

pub returns-in-Broken : goal.returns-in-Broken
returns-in-Broken c = no_table _ _ _ c.areas_ok.ensures c.if-not-areas_ok.false (sym c.in-Broken.is ∙ c.read_contents.ensures)

pub returns-in-Lists : goal.returns-in-Lists
returns-in-Lists c = c.decide_bodies.ensures
