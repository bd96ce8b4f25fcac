use mathlib.Core.Path.{refl}
use native.Mathlib.Omega.{arith}
use Rattle.shelf.proofs.Laws.{seek_on, seek_stop, seek_end}
use Rattle.shelf.proofs.place_from.Goals as goal

pub returns-then-same_area : goal.returns-then-same_area
returns-then-same_area c =
    seek_stop c.loop-i.invariant (omega arith) refl
    c.same_area.ensures c.if-same_area.true

pub loop-i-preserved : goal.loop-i-preserved
loop-i-preserved c =
    seek_on c.loop-i.invariant (omega arith) refl
    c.same_area.ensures c.if-same_area.false

pub returns : goal.returns
returns c = seek_end c.loop-i.invariant (omega arith)
