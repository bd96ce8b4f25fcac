use Rattle.hint_recorder.proofs.Recorder.{roomy_is, see_yes}
use Rattle.rules.specs.Refusals.{answer_in, number_in}
use mathlib.Core.Path.{refl}
use Rattle.hint_recorder.proofs.see.Goals as goal

pub seen-requires : goal.seen-requires
unfolding number_in
seen-requires c = roomy_is c.args.r c.args.list.now c.in_ok-check_list.ensures refl

pub returns : goal.returns
unfolding answer_in number_in
returns c =
    see_yes c.args.r c.args.list.now c.in_ok-check_list.ensures refl c.args.lsn c.args.sector.now
    c.first_record-first.ensures c.seen.ensures
