use Rattle.std.proofs.Common.{refl, arith}
use Rattle.rules.specs.Hints.{largest_of}
use Rattle.hint.specs.Steps.{largest_in}
use Rattle.hint.proofs.nearest.Place.{below_next, largest_skip, largest_new, largest_old}
use Rattle.hint.proofs.nearest.largest.Goals as goal
use Rattle.hint.proofs.nearest.largest.Goals.{then-candidate+then-is_larger, else-candidate, else-candidate-via-then-candidate+else-is_larger, else-candidate-via-else-candidate}

pub loop-j-init : goal.loop-j-init
unfolding largest_in largest_of
loop-j-init c = (tt, refl)

pub loop-j-preserved : goal.loop-j-preserved
loop-j-preserved c =
    let b = c.loop-j.invariant.1 in
    let e = c.read_hint-h.ensures in
    elim c.if-candidate.branch [
      | then-candidate+then-is_larger w ↦
          rw w.best-is (omega arith, largest_new _ _ _ _ _ _ _ c.loop-j-test.true b e w.if-candidate.ensures w.if-is_larger.ensures)
      | else-candidate w ↦
          rw w.best-is (
            below_next _ _ c.loop-j.invariant.0,
            elim w.else-candidate.branch [
              | else-candidate-via-then-candidate+else-is_larger v ↦
                  largest_old _ _ _ _ _ _ _ c.loop-j-test.true b e v.if-candidate.ensures v.if-is_larger.ensures
              | else-candidate-via-else-candidate v ↦ largest_skip _ _ _ _ _ _ _ c.loop-j-test.true b e v.if-candidate.ensures
            ],
          )
    ]
