use Rattle.rules.specs.File.{decode_checkpoint}
use Rattle.field.proofs.Records.{records_length}
use Rattle.absorb.proofs.tests.Common.{no_further, a_further}
use Rattle.absorb.proofs.tests.continues.Goals as goal

pub returns-then-m-i : goal.returns-then-m-i
returns-then-m-i c = no_further _ _ _ _ (records_length 24 decode_checkpoint _ _) c.if-m-i.true

pub returns-else-m-i : goal.returns-else-m-i
returns-else-m-i c = a_further _ _ _ _ (records_length 24 decode_checkpoint _ _) c.if-m-i.false c.last_checkpoint.ensures c.get_checkpoint.ensures c.not_below.ensures
