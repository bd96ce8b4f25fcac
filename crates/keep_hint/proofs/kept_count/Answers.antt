use mathlib.Core.Path.{◌∙◌}
use native.Mathlib.Omega.{arith}
use Rattle.tables.specs.Tables.{kept_in}
use Rattle.tables.proofs.Rest.{rest_start, rest_on, rest_end}
use Rattle.keep_hint.proofs.Places.{count_start, count_kept, count_other, count_end}
use Rattle.keep_hint.proofs.kept_count.Goals as goal
use Rattle.keep_hint.proofs.kept_count.Goals.{then-is_kept, else-is_kept}

pub loop-j-init : goal.loop-j-init
loop-j-init c = (omega arith, rw (← count_start (kept_in _ _)) (rest_start _ _ _ _ _ _ (omega arith)))

pub loop-j-preserved : goal.loop-j-preserved
loop-j-preserved c = elim c.if-is_kept.branch [
  | then-is_kept w ↦ rw w.kept-is (
    omega arith,
    rest_on c.loop-j.invariant.1 _ c.loop-j-test.true c.read_hint.ensures
        (λ hs. count_kept _ _ hs w.if-is_kept.ensures),
  )
  | else-is_kept w ↦ rw w.kept-is (
    omega arith,
    rest_on c.loop-j.invariant.1 _ c.loop-j-test.true c.read_hint.ensures
        (λ hs. count_other _ _ hs w.if-is_kept.ensures),
  )
]

pub returns : goal.returns
returns c = count_end _ ∙ rest_end c.loop-j.invariant.1 c.loop-j-test.false
