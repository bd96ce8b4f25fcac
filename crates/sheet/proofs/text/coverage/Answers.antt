use Rattle.rules_coverage.specs.Coverage.{coverage}
use borrow.Author.Tests.{eq-eqb, ne_eqb}
use Rattle.sheet.proofs.text.coverage.Goals as goal

pub returns-then-r-eq0 : goal.returns-then-r-eq0
unfolding coverage
returns-then-r-eq0 c = rw (eq-eqb c.args.r.boundaries 0 c.if-r-eq0.true)

pub returns : goal.returns
unfolding coverage
returns c = rw (ne_eqb c.args.r.boundaries 0 c.if-r-eq0.false)
