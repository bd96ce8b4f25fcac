use mathlib.Core.Path.{sym, ◌∙◌}
use Rattle.index.proofs.Questions.{long_by}
use Rattle.index.proofs.scan_ok.Goals as goal

pub sections_ok-requires : goal.sections_ok-requires
sections_ok-requires c = (long_by _ c.requires c.area_boundaries-b.ensures (sym c.counts_ok.ensures ∙ c.if-counts_ok.true), c.requires.area)
