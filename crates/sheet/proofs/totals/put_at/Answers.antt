use mathlib.Core.Path.{◌∙◌}
use Rattle.sheet.proofs.Sums.{row_written}
use Rattle.sheet.proofs.totals.put_at.Goals as goal

pub returns : goal.returns
returns c = rw (c.copy_from_slice.ensures.after ∙ c.row_words.ensures) (row_written c.args.n c.args.table.now c.args.row c.requires.0)
