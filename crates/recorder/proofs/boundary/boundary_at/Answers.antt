use mathlib.Core.Path.{sym, ◌∙◌}
use native.Mathlib.Omega.{arith}
use Rattle.index.proofs.Questions.{range}
use Rattle.recorder.proofs.Boundaries.{boundary_small}
use Rattle.recorder.proofs.boundary.boundary_at.Goals as goal

pub lsn_at-requires : goal.lsn_at-requires
lsn_at-requires c =
    let r = range _ (sym c.question1.ensures ∙ c.if-not-question1.false) in
    omega (arith, r.order, r.end)

pub overflow_cast-j : goal.overflow_cast-j
overflow_cast-j c =
    record {
      fits = boundary_small _ _ _ (sym c.question1.ensures ∙ c.if-not-question1.false) (sym c.question2.ensures ∙ c.if-not-question2.false)
          c.area_boundaries.ensures c.if-j-area_boundaries.true;
    }
