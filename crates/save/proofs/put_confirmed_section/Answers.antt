use Rattle.save.proofs.output.Sums.{summed_lent}
use Rattle.save.proofs.Sections.{confirmed_size}
use native.Mathlib.Omega.{arith}
use Rattle.save.proofs.put_confirmed_section.Goals as goal

pub returns : goal.returns
returns c = summed_lent _ _ _ _ _ _ (confirmed_size c.args.n c.args.table.now) (omega arith) (omega (arith, c.requires.1)) c.write_confirmed_section-sum.ensures
