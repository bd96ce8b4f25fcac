use native.Mathlib.Omega.{arith}
use Rattle.shelf.proofs.Laws.{make_start, make_oldest, make_on, make_end}
use Rattle.shelf.proofs.make_room.Goals as goal

pub loop-b-init : goal.loop-b-init
loop-b-init c = make_start _ _ c.requires

pub roomy-requires : goal.roomy-requires
roomy-requires c = c.loop-b.invariant.sound

pub oldest-requires : goal.oldest-requires
oldest-requires c = c.loop-b.invariant.sound.few

pub dropped-b-requires : goal.dropped-b-requires
dropped-b-requires c =
    let h = c.loop-b.invariant in (
      h.sound,
      make_oldest h c.roomy.ensures c.loop-b-test.true
          c.oldest.ensures.0,
    )

pub loop-b-smaller : goal.loop-b-smaller
loop-b-smaller c = let e = c.dropped-b.ensures.1 in omega arith

pub loop-b-preserved : goal.loop-b-preserved
loop-b-preserved c =
    make_on c.loop-b.invariant c.roomy.ensures
    c.loop-b-test.true c.oldest.ensures.0 c.dropped-b.ensures

pub returns : goal.returns
returns c = make_end c.loop-b.invariant c.roomy.ensures c.loop-b-test.false
