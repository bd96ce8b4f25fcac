use mathlib.Core.Path.{refl}
use Rattle.rules.specs.Refusals.{number_in}
use Rattle.disc_save.proofs.Answers.{both_pass, both_saved}
use Rattle.disc_save.proofs.save_both.Goals as goal

pub write_by_slot-requires : goal.write_by_slot-requires
unfolding number_in
write_by_slot-requires c = both_pass c.args.x _ c.args.y _ c.args.out.now c.in_ok-ask_both.ensures refl

pub returns : goal.returns
unfolding number_in
returns c = both_saved c.args.x _ c.args.y _ c.args.out.now c.in_ok-ask_both.ensures refl c.write_by_slot.ensures
