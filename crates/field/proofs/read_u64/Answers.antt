use mathlib.Core.Path.{◌∙◌}
use native.Mathlib.Omega.{arith}
use Rattle.field.proofs.Native.{part_number}
use Rattle.field.proofs.read_u64.Goals as goal

pub returns : goal.returns
returns c =
    let read = rw c.unwrap.ensures at c.try_into.ensures in
    c.from_le_bytes.ensures ∙ part_number 7 _ _ _ (read.1.same ∙ grind arith)
