use Prim.Native.Nat.{◌<◌}
use mathlib.Core.Path.{◌≡◌, ◌∙◌}
use native.Mathlib.Omega.{arith}
use lib.ListN.{length, length-set}
use lib.Seq.{take-length}
use Rattle.field.proofs.Bytes.{copied_more}
use borrow.Author.Rules.{rules}
use Rattle.field.proofs.copy_into.Goals as goal

pub loop-i-preserved : goal.loop-i-preserved
loop-i-preserved c =
    let hd : c.loop-i.i < length c.args.dst.now = omega arith in
    let hs : c.loop-i.i < length c.args.src.now = omega arith in
    (rw c.loop-i.invariant.0 (copied_more _ _ _ hd hs), simp length-set (omega arith))

pub returns : goal.returns
returns c =
    let e : c.loop-i.i ≡ length c.args.src.now = omega arith in
    c.loop-i.invariant.0 ∙ rw e (rw take-length)
