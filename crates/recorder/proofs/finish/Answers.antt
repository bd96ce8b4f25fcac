use mathlib.Core.Bool.{not}
use mathlib.Core.Path.{refl, ap}
use Rattle.rules.specs.Refusals.{answer_in, number_in, refusal_number}
use Rattle.index.proofs.Questions.{range}
use Rattle.recorder.proofs.Calls.{passes_roomy, passes_long, finished_5, finished_6, finished_yes}
use Rattle.recorder.proofs.finish.Goals as goal

pub at_end-requires : goal.at_end-requires
unfolding number_in
at_end-requires c = (passes_roomy _ _ c.in_ok-check.ensures refl).area

pub returns-then-not-at_end : goal.returns-then-not-at_end
unfolding answer_in number_in refusal_number
returns-then-not-at_end c = finished_5 _ _ c.in_ok-check.ensures _ refl c.at_end.ensures (ap not c.if-not-at_end.true)

pub last_checkpoint-last-requires : goal.last_checkpoint-last-requires
unfolding number_in
last_checkpoint-last-requires c = (passes_long _ _ c.in_ok-check.ensures refl).checkpoints

pub ending_ok-requires : goal.ending_ok-requires
unfolding number_in
ending_ok-requires c = (range _ (passes_roomy _ _ c.in_ok-check.ensures refl).area).order

pub returns-then-not-ending_ok : goal.returns-then-not-ending_ok
unfolding answer_in number_in refusal_number
returns-then-not-ending_ok c =
    finished_6 _ _ c.in_ok-check.ensures _ refl c.at_end.ensures (ap not c.if-not-at_end.false)
    (c.ending_ok.ensures _ c.last_checkpoint-last.ensures) (ap not c.if-not-ending_ok.true)

pub returns : goal.returns
unfolding answer_in number_in refusal_number
returns c =
    finished_yes _ _ c.in_ok-check.ensures _ refl c.at_end.ensures (ap not c.if-not-at_end.false)
    (c.ending_ok.ensures _ c.last_checkpoint-last.ensures) (ap not c.if-not-ending_ok.false) c.with_mode.ensures
