use mathlib.Core.Path.{◌∙◌}
use Rattle.tables.proofs.Kept.{kept_put}
use Rattle.tables.proofs.write_hint.Goals as goal

pub returns : goal.returns
returns c = c.write_u32-2.ensures ∙ rw (c.write_u32.ensures, c.word_of.ensures) (kept_put _ _ _)
