use Rattle.rules.specs.File.{decode_checkpoint}
use Rattle.field.proofs.Records.{records_at, records_past}
use mathlib.Core.Path.{◌∙◌, sym}
use Rattle.tables.proofs.get_checkpoint.Goals as goal

pub returns-then-i-n : goal.returns-then-i-n
returns-then-i-n c = c.read_checkpoint.ensures ∙ sym (records_at 24 decode_checkpoint _ _ _ _ c.if-i-n.true)

pub returns : goal.returns
returns c = sym (records_past 24 decode_checkpoint _ _ _ _ c.if-i-n.false)
