use Rattle.hint_recorder.proofs.Recorder.{take_yes}
use Rattle.rules.specs.Refusals.{answer_in, number_in}
use mathlib.Core.Path.{refl}
use Rattle.hint_recorder.proofs.take.Goals as goal

pub returns : goal.returns
unfolding answer_in number_in
returns c = take_yes c.args.r c.args.list.now c.in_ok-check_list.ensures refl c.emptied.ensures
