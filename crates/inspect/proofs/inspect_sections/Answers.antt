use mathlib.Core.Bool.{not}
use mathlib.Core.Path.{ap}
use native.Mathlib.Omega.{arith}
use Rattle.inspect.proofs.Left.{tail_is}
use Rattle.inspect.proofs.Tails.{checkpoints_fit, checkpoints_no, checkpoints_yes}
use Rattle.inspect.proofs.inspect_sections.Goals as goal

pub check_checkpoints-requires : goal.check_checkpoints-requires
check_checkpoints-requires c = (checkpoints_fit c.args.area c.args.h c.args.body.now c.requires.1 (rw (tail_is c.args.body.now 80) at c.cut-checkpoints.ensures), omega arith)

pub returns-then-not-check_checkpoints : goal.returns-then-not-check_checkpoints
returns-then-not-check_checkpoints c = checkpoints_no c.args.area c.args.h c.args.body.now c.requires.1 (rw (tail_is c.args.body.now 80) at c.cut-checkpoints.ensures) c.check_checkpoints.ensures (ap not c.if-not-check_checkpoints.true)

pub inspect_stored-requires : goal.inspect_stored-requires
inspect_stored-requires c = (c.requires.0, checkpoints_fit c.args.area c.args.h c.args.body.now c.requires.1 (rw (tail_is c.args.body.now 80) at c.cut-checkpoints.ensures), c.requires.1)

pub returns : goal.returns
returns c = checkpoints_yes c.args.area c.args.h c.args.body.now c.requires.1 (rw (tail_is c.args.body.now 80) at c.cut-checkpoints.ensures) c.check_checkpoints.ensures (ap not c.if-not-check_checkpoints.false) c.inspect_stored.ensures
