use mathlib.Core.Path.{refl, sym, ◌∙◌}
use Rattle.recorder.proofs.Questions.{long_by, held_no, held_yes}
use Rattle.recorder.proofs.held_ok.Goals as goal
use Rattle.recorder.proofs.held_ok.Goals.{then-counts_fit, else-counts_fit}

pub stretch_ok-requires : goal.stretch_ok-requires
stretch_ok-requires c = long_by c.requires _ c.counts_fit.ensures c.if-counts_fit.true

pub check_kinds-requires : goal.check_kinds-requires
check_kinds-requires c =
    elim c.if-counts_fit.branch [ then-counts_fit w ↦ (long_by c.requires _ c.counts_fit.ensures w.if-counts_fit.true).parts | else-counts_fit w ↦ (cc) ]

pub returns-then-stretch_ok : goal.returns-then-stretch_ok
returns-then-stretch_ok c =
    elim c.if-counts_fit.branch [
      | then-counts_fit w ↦
          rw (sym w.value-is ∙ c.if-stretch_ok.true) at
          (held_yes _ _ c.requires.is c.is_finished-whole.ensures c.counts_fit.ensures w.if-counts_fit.true w.stretch_ok.ensures c.check_kinds.ensures)
      | else-counts_fit w ↦ (cc)
    ]

pub returns-else-stretch_ok : goal.returns-else-stretch_ok
returns-else-stretch_ok c =
    elim c.if-counts_fit.branch [
      | then-counts_fit w ↦
          rw c.if-stretch_ok.false
          (rw (sym w.value-is ∙ c.if-stretch_ok.false) at
          (held_yes _ _ c.requires.is c.is_finished-whole.ensures c.counts_fit.ensures w.if-counts_fit.true w.stretch_ok.ensures refl))
      | else-counts_fit w ↦ rw (w.value-is, w.if-counts_fit.false) (held_no _ _ c.requires.is c.is_finished-whole.ensures c.counts_fit.ensures w.if-counts_fit.false)
    ]
