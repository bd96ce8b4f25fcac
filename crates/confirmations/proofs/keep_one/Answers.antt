use native.Mathlib.Omega.{arith}
use Rattle.confirmations.proofs.Keeping.{one_rising, one_kept}
use borrow.Author.Rules.{rules}
use Rattle.confirmations.proofs.keep_one.Goals as goal

pub merge_confirmations-requires : goal.merge_confirmations-requires
merge_confirmations-requires c =
    one_rising c.requires _ _ c.args.c (omega arith) (omega arith) (omega arith) (search rules)
    c.write_confirmation.ensures (search rules)

pub returns : goal.returns
returns c =
    one_kept c.requires _ _ c.args.c (omega arith) (omega arith) (omega arith) (search rules)
    c.write_confirmation.ensures (search rules) c.merge_confirmations.ensures
