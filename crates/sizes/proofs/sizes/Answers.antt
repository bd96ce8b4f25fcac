use mathlib.Core.Path.{sym, ◌∙◌}
use Rattle.rules.specs.Tests.{first_no, after}
use Rattle.sizes.specs.Sizes.{new_sizes, sized_of}
use Rattle.sizes.proofs.sizes.Goals as goal

pub returns-then-not-question1 : goal.returns-then-not-question1
unfolding new_sizes sized_of first_no after
returns-then-not-question1 c = rw (sym c.question1.ensures ∙ c.if-not-question1.true)

pub returns-then-not-question2 : goal.returns-then-not-question2
unfolding new_sizes sized_of first_no after
returns-then-not-question2 c = rw (sym c.question1.ensures ∙ c.if-not-question1.false, sym c.question2.ensures ∙ c.if-not-question2.true)

pub table_sizes-requires : goal.table_sizes-requires
table_sizes-requires c = sym c.question1.ensures ∙ c.if-not-question1.false

pub returns : goal.returns
unfolding new_sizes sized_of first_no after
returns c = rw (c.table_sizes.ensures, c.min-lowered.ensures, sym c.question1.ensures ∙ c.if-not-question1.false, sym c.question2.ensures ∙ c.if-not-question2.false)
