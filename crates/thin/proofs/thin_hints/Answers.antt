use Prim.Native.Nat.{◌*◌}
use mathlib.Core.Path.{sym}
use lib.ListN.{take-append-drop}
use Rattle.thin.proofs.Steps.{thinned, thinned_few}
use Rattle.thin.proofs.thin_hints.Goals as goal

pub returns-then-n-most : goal.returns-then-n-most
returns-then-n-most c =
    thinned_few _ _ _ _ (λ i. (c.type_inv.t i).fits) c.requires c.if-n-most.true
    (sym (take-append-drop (c.args.n * 8) _))

pub returns : goal.returns
returns c = thinned _ _ _ c.cutoff.ensures c.close_up.ensures
