use mathlib.Core.Path.{◌∙◌}
use Rattle.confirmations.proofs.confirm.Kept.{confirmation_put}
use Rattle.confirmations.proofs.confirm.write_confirmation.Goals as goal

pub returns : goal.returns
returns c =
    c.write_u64.ensures ∙ rw
    (c.write_u32-2.ensures, c.write_u32.ensures) (confirmation_put c.args.t.now _ c.args.c)
