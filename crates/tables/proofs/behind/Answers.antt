use Prim.Native.Nat.{◌-◌}
use lib.ListN.{length, drop, length-drop}
use native.Mathlib.Omega.{arith}
use lib.ListN.{length-drop}
use lib.Seq.{take_all}
use Rattle.tables.proofs.behind.Goals as goal

pub returns : goal.returns
returns c = take_all (length c.args.b.now - c.args.at) (drop c.args.at c.args.b.now) (simp length-drop (omega arith))
