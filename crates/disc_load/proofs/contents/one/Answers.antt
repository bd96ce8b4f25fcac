use mathlib.Core.Path.{sym, ◌∙◌}
use Rattle.disc_load.proofs.contents.Reading.{contents_broken, contents_lists}
use Rattle.disc_load.proofs.contents.one.Goals as goal

pub returns-then-not-one_ok : goal.returns-then-not-one_ok
returns-then-not-one_ok c = contents_broken _ (sym c.one_ok.ensures ∙ c.if-not-one_ok.true)

pub returns : goal.returns
returns c = contents_lists _ (sym c.one_ok.ensures ∙ c.if-not-one_ok.false) c.place_in_one.ensures c.place_in_one-2.ensures
