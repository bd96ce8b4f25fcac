use Rattle.save.proofs.output.Sums.{summed_both}
use Rattle.save.proofs.Sections.{filled, number_summed}
use native.Mathlib.Omega.{arith}
use Rattle.save.proofs.write_confirmed_section.Goals as goal

pub returns : goal.returns
returns c =
    filled
    (summed_both (number_summed 4 _ 0 _ _ c.write_u32.ensures c.sum_u32.ensures)
    (summed_both (number_summed 4 _ 4 _ _ c.write_u32-2.ensures c.sum_u32-2.ensures) c.put_confirmations.ensures))
    (omega (arith, c.requires.1))
