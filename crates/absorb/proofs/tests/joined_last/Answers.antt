use Rattle.tables.specs.Tables.{checkpoints_in}
use mathlib.Core.Path.{◌∙◌}
use Rattle.rules.specs.File.{decode_checkpoint}
use Rattle.field.proofs.Records.{records_length}
use Rattle.absorb.proofs.tests.Common.{last_own, last_other}
use Rattle.absorb.proofs.tests.joined_last.Goals as goal

pub returns-then-m-i : goal.returns-then-m-i
returns-then-m-i c =
    c.last_checkpoint.ensures
    ∙ last_own (checkpoints_in c.args.n c.args.t.now) (checkpoints_in c.args.m c.args.other.now) c.args.i
    c.args.m (records_length 24 decode_checkpoint _ _) c.if-m-i.true

pub returns-else-m-i : goal.returns-else-m-i
returns-else-m-i c =
    c.last_checkpoint-else-m-i.ensures
    ∙ last_other (checkpoints_in c.args.n c.args.t.now) (checkpoints_in c.args.m c.args.other.now) c.args.i
    c.args.m (records_length 24 decode_checkpoint _ _) c.if-m-i.false
