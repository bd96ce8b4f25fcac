use mathlib.Core.Path.{sym, ◌∙◌}
use Rattle.disc_load.proofs.contents.Reading.{contents_broken, contents_lists}
use Rattle.disc_load.proofs.contents.two.Goals as goal

pub returns-then-not-two_ok : goal.returns-then-not-two_ok
returns-then-not-two_ok c = contents_broken _ (sym c.two_ok.ensures ∙ c.if-not-two_ok.true)

pub returns : goal.returns
returns c = contents_lists _ (sym c.two_ok.ensures ∙ c.if-not-two_ok.false) c.place_in_two.ensures c.place_in_two-2.ensures
