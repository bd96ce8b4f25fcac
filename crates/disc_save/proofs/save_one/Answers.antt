use mathlib.Core.Path.{sym, refl}
use Rattle.rules.specs.Refusals.{number_in}
use Rattle.disc_save.proofs.Answers.{one_saved}
use Rattle.disc_save.proofs.save_one.Goals as goal

pub write_list-requires : goal.write_list-requires
unfolding number_in
write_list-requires c = sym c.in_ok-check.ensures

pub returns : goal.returns
unfolding number_in
returns c = one_saved c.args.x _ c.args.out.now c.in_ok-check.ensures refl c.write_list.ensures
