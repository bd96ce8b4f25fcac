use Rattle.tables.proofs.kinds.Each.{kinds_are, kind_no, kind_yes}
use Rattle.tables.proofs.Walk.{walk_start, walk_on, walk_stop, walk_end}
use native.Mathlib.Omega.{arith}
use mathlib.Core.Path.{refl}
use Rattle.tables.proofs.kinds.check_kinds.Goals as goal

pub loop-j-init : goal.loop-j-init
loop-j-init c = rw (← kinds_are _ _) (walk_start _ _ _ _ _ _ _)

pub returns-then-read_u32-gt-LAST_KIND : goal.returns-then-read_u32-gt-LAST_KIND
returns-then-read_u32-gt-LAST_KIND c = walk_stop c.loop-j.invariant c.loop-j-test.true refl (kind_no _ _ c.read_u32.ensures (omega arith))

pub loop-j-preserved : goal.loop-j-preserved
loop-j-preserved c = walk_on c.loop-j.invariant c.loop-j-test.true refl (kind_yes _ _ c.read_u32.ensures (omega arith)) refl

pub returns : goal.returns
returns c = walk_end c.loop-j.invariant c.loop-j-test.false
