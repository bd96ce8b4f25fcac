use borrow.Author.Tests.{eq-eqb, ne_eqb}
use Rattle.coarsen.specs.Steps.{last_below}
use borrow.Author.Rules.{rules}
use Rattle.coarsen.proofs.questions.last_below.Goals as goal

pub returns-then-c-eq0 : goal.returns-then-c-eq0
unfolding last_below
returns-then-c-eq0 c = rw (eq-eqb _ 0 c.if-c-eq0.true) (search rules)

pub returns : goal.returns
unfolding last_below
returns c = rw (ne_eqb _ 0 c.if-c-eq0.false) (rw (c.get_lsn.ensures, c.min-last.ensures))
