use native.Mathlib.Omega.{arith}
use Rattle.load.proofs.limit.Frames.{move_room, move_on, move_end, moved_all}
use borrow.Author.Rules.{rules}
use Rattle.load.proofs.commit_frames.Goals as goal

pub move_frame-len-requires : goal.move_frame-len-requires
move_frame-len-requires c = move_room c.loop-i.invariant.0 c.loop-i-test.true

pub next_frame-here-requires : goal.next_frame-here-requires
next_frame-here-requires c = let r = move_room c.loop-i.invariant.0 c.loop-i-test.true in omega (arith, c.move_frame-len.ensures.count)

pub overflow_add-used : goal.overflow_add-used
overflow_add-used c = let r = move_room c.loop-i.invariant.0 c.loop-i-test.true in omega (arith, c.move_frame-len.ensures.count)

pub loop-i-preserved : goal.loop-i-preserved
loop-i-preserved c = (rw c.next_frame-here.ensures (move_on c.loop-i.invariant.0 c.loop-i-test.true (λ i. (c.type_inv.b i).fits) c.move_frame-len.ensures), search rules, search rules)

pub returns : goal.returns
returns c = moved_all _ _ _ _ (move_end c.loop-i.invariant.0 c.loop-i-test.false)
