use mathlib.Core.Path.{sym, ◌∙◌}
use Rattle.disc_load.proofs.contents.Inside.{locates}
use Rattle.disc_load.proofs.table_sizes.Sizing.{no_areas, no_table, lists}
use Rattle.disc_load.proofs.table_sizes.disc_sizes.Goals as goal

pub returns-then-not-areas_ok : goal.returns-then-not-areas_ok
returns-then-not-areas_ok c = no_areas _ _ _ _ c.areas_ok.ensures c.if-not-areas_ok.true

pub body_sizes-x-requires : goal.body_sizes-x-requires
body_sizes-x-requires c = (locates _ (sym c.in-Lists.is ∙ c.read_contents.ensures)).inside0

pub body_sizes-y-requires : goal.body_sizes-y-requires
body_sizes-y-requires c = (locates _ (sym c.in-Lists.is ∙ c.read_contents.ensures)).inside1

pub returns-in-Broken : goal.returns-in-Broken
returns-in-Broken c = no_table _ _ _ _ c.areas_ok.ensures c.if-not-areas_ok.false (sym c.in-Broken.is ∙ c.read_contents.ensures)

pub returns-in-Lists : goal.returns-in-Lists
returns-in-Lists c =
    lists _ _ _ _ c.areas_ok.ensures c.if-not-areas_ok.false _ _ _ (sym c.in-Lists.is ∙ c.read_contents.ensures)
    c.body_sizes-x.ensures c.body_sizes-y.ensures c.both_sized.ensures
