use mathlib.Core.Path.{refl}
use Rattle.rules.specs.File.{header_fields, field}
use Rattle.header.proofs.Table.{made, placed}
use Rattle.header.proofs.field_of.Goals as goal

-- the code's table is the definition's, and the test over it computes
pub returns : goal.returns
unfolding header_fields
returns c = placed 0 header_fields refl c.args.i c.requires (made (field 0 0))
