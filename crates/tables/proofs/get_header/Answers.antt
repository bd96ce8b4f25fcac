use Rattle.tables.specs.Tables.{decode_header}
use Rattle.field.proofs.Records.{records_at, records_past}
use mathlib.Core.Path.{◌∙◌, sym}
use Rattle.tables.proofs.get_header.Goals as goal

pub returns-then-i-f : goal.returns-then-i-f
returns-then-i-f c = c.read_header.ensures ∙ sym (records_at 8 decode_header _ _ _ _ c.if-i-f.true)

pub returns : goal.returns
returns c = sym (records_past 8 decode_header _ _ _ _ c.if-i-f.false)
