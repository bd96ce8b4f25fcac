use Rattle.save.proofs.output.Sums.{summed_lent}
use Rattle.save.proofs.Sections.{hint_size}
use native.Mathlib.Omega.{arith}
use Rattle.save.proofs.put_hint_section.Goals as goal

pub returns : goal.returns
returns c = summed_lent _ _ _ _ _ _ (hint_size c.args.h c.args.table.now) (omega arith) (omega (arith, c.requires.1)) c.write_hint_section-sum.ensures
