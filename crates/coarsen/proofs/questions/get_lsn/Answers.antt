use mathlib.Core.Path.{◌∙◌, sym}
use Rattle.field.proofs.Records.{records_at, records_past}
use Rattle.rules.specs.File.{decode_lsn}
use Rattle.coarsen.proofs.questions.get_lsn.Goals as goal

pub returns-else-i-n : goal.returns-else-i-n
returns-else-i-n c = sym (records_past 4 decode_lsn _ _ _ _ c.if-i-n.false)

pub returns-then-i-n : goal.returns-then-i-n
returns-then-i-n c = c.read_lsn.ensures ∙ sym (records_at 4 decode_lsn _ _ _ _ c.if-i-n.true)
