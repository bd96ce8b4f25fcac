use Rattle.hint_recorder.proofs.Recorder.{roomy_is, flush_yes}
use Rattle.rules.specs.Refusals.{answer_in, number_in}
use mathlib.Core.Path.{refl}
use Rattle.hint_recorder.proofs.flush.Goals as goal

pub flushed-requires : goal.flushed-requires
unfolding number_in
flushed-requires c = roomy_is c.args.r c.args.list.now c.in_ok-check_list.ensures refl

pub returns : goal.returns
unfolding answer_in number_in
returns c = flush_yes c.args.r c.args.list.now c.in_ok-check_list.ensures refl c.flushed.ensures
