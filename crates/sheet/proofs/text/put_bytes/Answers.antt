use Rattle.sheet.specs.Text.{Output, output, puts}
use Rattle.sheet.proofs.Written.{puts_turn, puts_done}
use native.Mathlib.Omega.{arith}
use Prim.Native.Nat.{◌+◌}
use mathlib.Core.Path.{sym, ap, ◌∙◌}
use lib.ListN.{drop}
use borrow.Author.Rules.{rules}
use Rattle.sheet.proofs.text.put_bytes.Goals as goal

pub loop-b-preserved : goal.loop-b-preserved
loop-b-preserved c = (
  ap (λ (x : Output). puts x (drop (c.loop-b.b-index + 1) c.args.s.now)) c.put_byte-q.ensures
      ∙ sym (puts_turn (output c.loop-b.out c.loop-b.q) c.loop-b.b-index c.args.s.now (omega arith))
      ∙ c.loop-b.invariant.0,
  search rules,
)

pub returns : goal.returns
returns c =
    sym (puts_done (output c.loop-b.out c.loop-b.q) c.loop-b.b-index c.args.s.now (omega arith))
    ∙ c.loop-b.invariant.0
