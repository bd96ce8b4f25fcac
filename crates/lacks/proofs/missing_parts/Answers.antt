use borrow.Author.Tests.{not-true, not-false}
use Rattle.lacks.proofs.Parts.{parts_start, parts_on, parts_end, within_at}
use native.Mathlib.Omega.{arith}
use native.Mathlib.Nat.{add-zero}
use Rattle.lacks.proofs.missing_parts.Goals as goal
use Rattle.lacks.proofs.missing_parts.Goals.{then-not-t, else-not-t}

pub loop-j-init : goal.loop-j-init
loop-j-init c = parts_start _ _ _ _ _ _ _ _ _ _ c.unpaired-s.ensures

pub read_held-q-requires : goal.read_held-q-requires
read_held-q-requires c = let r = c.requires.1.room in let l = c.loop-j-test.true in omega arith

pub skip-i-requires : goal.skip-i-requires
skip-i-requires c = (omega arith, c.requires.0.room, c.loop-j.invariant.counting.own)

pub lacks_part-t-requires : goal.lacks_part-t-requires
lacks_part-t-requires c = (
  c.requires.0.room,
  c.loop-j.invariant.pair,
  c.requires.0.frames,
  c.requires.1.frames,
  c.requires.0.within,
  within_at _ _ _ _ _ _ c.requires.1.within c.loop-j-test.true c.read_held-q.ensures,
)

pub loop-j-preserved : goal.loop-j-preserved
loop-j-preserved c =
    let on = parts_on _ _ _ _ _ _ _ _ _ _ c.loop-j.invariant c.loop-j-test.true c.read_held-q.ensures
    c.skip-i.ensures c.lacks_part-t.ensures in
    elim c.if-not-t.branch [
      | then-not-t w ↦ rw w.count-is (rw (not-true _ w.if-not-t.true) at on)
      | else-not-t w ↦ rw w.count-is (rw (not-false _ w.if-not-t.false, add-zero) at on)
    ]

pub returns : goal.returns
returns c = parts_end _ _ _ _ _ _ _ _ _ _ c.loop-j.invariant c.loop-j-test.false
