use Rattle.std.proofs.Common.{◌∙◌, arith, rules}
use Rattle.tables.proofs.Rest.{rest_start, rest_on, rest_stop, rest_end}
use Rattle.hint.proofs.density.Run.{last_is, run_low, run_high, run_on, run_end}
use Rattle.hint.proofs.density.run_last.Goals as goal
use Rattle.hint.proofs.density.run_last.Goals.{then-s-h-via-then-s-h, then-s-h-via-else-s-h+then-end-s}

pub loop-j-init : goal.loop-j-init
loop-j-init c = rest_start _ _ _ _ _ _ (search rules)

pub returns-then-s-h : goal.returns-then-s-h
returns-then-s-h c =
    rest_stop c.loop-j.invariant c.loop-j-test.true c.read_hint-s.ensures
    (λ hs. elim c.then-s-h.branch [
      | then-s-h-via-then-s-h w ↦ run_low _ _ _ _ hs w.if-s-h.true
      | then-s-h-via-else-s-h+then-end-s w ↦ run_high _ _ _ _ hs w.if-end-s.true
    ]) ∙ last_is _ _ _ _

pub loop-j-preserved : goal.loop-j-preserved
loop-j-preserved c =
    rest_on c.loop-j.invariant _ c.loop-j-test.true c.read_hint-s.ensures
    (λ hs. run_on _ _ _ _ hs (omega arith) (omega arith))

pub returns : goal.returns
returns c = run_end _ _ _ ∙ (rest_end c.loop-j.invariant c.loop-j-test.false ∙ last_is _ _ _ _)
