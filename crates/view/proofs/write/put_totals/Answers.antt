use Rattle.view.specs.Sections.{totals_in}
use Rattle.view.proofs.Layouts.{counts_length}
use Rattle.save.proofs.output.Stretches.{lent}
use native.Mathlib.Omega.{arith}
use mathlib.Core.Path.{refl}
use Rattle.view.proofs.write.put_totals.Goals as goal

pub returns : goal.returns
returns c = lent _ _ _ _ _ (counts_length (totals_in c.args.x)) refl (omega arith) (rw c.total_words.ensures at c.write_words.ensures)
