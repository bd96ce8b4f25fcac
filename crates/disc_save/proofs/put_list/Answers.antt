use native.Mathlib.Omega.{arith}
use Rattle.disc_save.proofs.Files.{put_list_is}
use Rattle.disc_save.proofs.put_list.Goals as goal

pub returns : goal.returns
returns c =
    put_list_is c.args.x _ c.args.out.now c.args.at _ c.args.len c.requires.1 (omega arith) (omega (arith, c.requires.2))
    c.write_saved.ensures
