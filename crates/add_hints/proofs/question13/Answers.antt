use Rattle.std.proofs.Common.{◌∙◌}
use borrow.Author.Tests.{lt-leb}
use Rattle.add_hints.proofs.Added.{too_many, not_many}
use Rattle.add_hints.proofs.question13.Goals as goal

pub returns-then-n : goal.returns-then-n
returns-then-n c = not_many c.args.list.now c.if-n.true c.numbers_ok.ensures

pub returns-else-n : goal.returns-else-n
returns-else-n c = lt-leb _ _ c.if-n.false ∙ too_many c.args.list.now c.if-n.false
