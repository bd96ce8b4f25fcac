use mathlib.Core.Path.{◌∙◌}
use mir.Syntax.{w32}
use mir.ValLaws.{to_z-of_z}
use Rattle.tables.proofs.Records.{held_made}
use Rattle.tables.proofs.held_at.Goals as goal

pub returns : goal.returns
returns c =
    held_made _ _ c.read_u32.ensures c.read_u32-2.ensures c.read_u32-3.ensures c.read_u32-4.ensures c.read_u32-5.ensures
    c.kind_of.ensures c.read_u32-6.ensures (to_z-of_z w32 _ (record { sfits = c.signed.type_inv }) ∙ c.signed.ensures)
