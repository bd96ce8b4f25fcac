use native.Mathlib.Omega.{arith}
use Rattle.index.proofs.Questions.{hint_space, scan_long}
use Rattle.index.proofs.question4.Goals as goal

pub hinting_ok-requires : goal.hinting_ok-requires
hinting_ok-requires c = hint_space c.requires

pub check_kinds-requires : goal.check_kinds-requires
check_kinds-requires c = grind (arith, scan_long c.requires)
