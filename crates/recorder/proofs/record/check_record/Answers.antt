use native.Mathlib.Omega.{arith}
use mathlib.Core.Path.{refl}
use Rattle.rules.specs.Refusals.{number_in}
use Rattle.index.proofs.Questions.{range}
use Rattle.recorder.proofs.Calls.{passes_roomy, passes_long}
use Rattle.recorder.proofs.record.check_record.Goals as goal

pub last_checkpoint-last-requires : goal.last_checkpoint-last-requires
unfolding number_in
last_checkpoint-last-requires c = (passes_long _ _ c.in_ok-check.ensures refl).checkpoints

pub due-requires : goal.due-requires
unfolding number_in
due-requires c =
    let number = c.in_ok-check.ensures in
    ((let g = range _ (passes_roomy _ _ number refl).area in omega arith), (passes_long _ _ number refl).few)

pub rises-requires : goal.rises-requires
unfolding number_in
rises-requires c = (passes_long _ _ c.in_ok-check.ensures refl).few
