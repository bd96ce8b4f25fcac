use mathlib.Core.Path.{refl}
use native.Mathlib.Omega.{arith}
use Rattle.shelf.proofs.Laws.{pair_on, pair_stop, pair_end}
use Rattle.shelf.proofs.no_two.Goals as goal

pub returns-then-place_from-a : goal.returns-then-place_from-a
returns-then-place_from-a c =
    pair_stop c.loop-i.invariant (omega arith) refl
    c.place_from.ensures.0 (omega arith)

pub loop-i-preserved : goal.loop-i-preserved
loop-i-preserved c =
    pair_on c.loop-i.invariant (omega arith) refl
    c.place_from.ensures.0 (omega arith)

pub returns : goal.returns
returns c = pair_end c.loop-i.invariant (omega arith)
