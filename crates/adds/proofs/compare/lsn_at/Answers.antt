use Rattle.adds.proofs.compare.Passing.{lsn_here, lsn_none}
use borrow.Author.Rules.{rules}
use Rattle.adds.proofs.compare.lsn_at.Goals as goal

pub returns-then-i-n : goal.returns-then-i-n
returns-then-i-n c = lsn_here _ _ _ c.if-i-n.true c.read_hint.ensures (search rules)

pub returns-else-i-n : goal.returns-else-i-n
returns-else-i-n c = lsn_none _ _ _ c.if-i-n.false
