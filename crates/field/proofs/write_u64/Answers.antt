use mathlib.Core.Path.{◌∙◌}
use native.Mathlib.Omega.{arith}
use Rattle.field.proofs.Native.{part_put}
use Rattle.field.proofs.write_u64.Goals as goal

pub returns : goal.returns
returns c =
    part_put 8 _ _ _ _ _ _ c.requires (c.copy_from_slice.ensures.after ∙ c.to_le_bytes.ensures ∙ grind arith) (omega arith) (omega arith)
