use native.Mathlib.Omega.{arith}
use mathlib.Core.Bool.{not}
use mathlib.Core.Path.{ap}
use Rattle.index.proofs.Questions.{hints_long}
use Rattle.index.proofs.hinting_ok.Goals as goal

pub check_kept-requires : goal.check_kept-requires
check_kept-requires c = (hints_long c.args.x _ _ c.requires c.hint_counts.ensures (ap not c.if-hint_counts.true)).hints

pub check_confirmations-requires : goal.check_confirmations-requires
check_confirmations-requires c = grind (arith, hints_long c.args.x c.args.hints.now c.args.confirmed.now c.requires c.hint_counts.ensures)
