use mathlib.Core.Bool.{not}
use mathlib.Core.Path.{ap}
use borrow.Author.Tests.{ne_eqb}
use Rattle.confirmations.proofs.confirm.Kept.{nothing_kept, all_kept}
use Rattle.confirmations.proofs.confirm.merge_confirmations.Goals as goal
use Rattle.confirmations.proofs.confirm.merge_confirmations.Goals.{then-not-checked-via-then-not-checked, then-not-checked-via-else-not-checked+then-most-eq0}

pub returns-then-not-checked : goal.returns-then-not-checked
returns-then-not-checked c =
    nothing_kept c.args.checked c.args.most c.args.c c.args.confirmed.now c.requires
    (λ i. (c.type_inv.confirmed i).fits)
    (elim c.then-not-checked.branch [
      | then-not-checked-via-then-not-checked w ↦ rw (ap not w.if-not-checked.true)
      | then-not-checked-via-else-not-checked+then-most-eq0 w ↦ rw (ap not w.if-not-checked.false, w.if-most-eq0.true)
    ])

pub returns : goal.returns
returns c =
    all_kept c.args.checked c.args.most c.args.c c.args.confirmed.now c.requires
    (rw ((ap not c.if-not-checked.false), ne_eqb _ _ c.if-most-eq0.false)) c.keep_last.ensures
