use mathlib.Core.Path.{refl}
use native.Mathlib.Omega.{arith}
use Rattle.shelf.proofs.Laws.{shift_start, shift_on, shift_end}
use Rattle.shelf.proofs.dropped.Goals as goal

pub loop-j-init : goal.loop-j-init
loop-j-init c = shift_start _ _ c.requires.0 c.requires.1

pub loop-j-preserved : goal.loop-j-preserved
loop-j-preserved c = shift_on c.loop-j.invariant (omega arith) refl refl

pub returns : goal.returns
returns c = shift_end c.loop-j.invariant (omega arith)
