use mathlib.Core.Bool.{not}
use mathlib.Core.Path.{ap}
use Rattle.inspect.proofs.hint_sections.Sections.{hints_asked, hints_fit, hints_no, hints_yes}
use borrow.Author.Rules.{rules}
use Rattle.inspect.proofs.hint_sections.hint_list.Goals as goal

pub returns-then-number-ne0 : goal.returns-then-number-ne0
returns-then-number-ne0 c = hints_asked _ _ _ _ _ c.holds.ensures c.hint_number-number.ensures c.if-number-ne0.true

pub hints_ok-requires : goal.hints_ok-requires
hints_ok-requires c = hints_fit _ c.args.g c.args.c.at c.args.body.now c.holds.ensures c.hint_number-number.ensures c.if-number-ne0.false

pub returns-then-not-hints_ok : goal.returns-then-not-hints_ok
returns-then-not-hints_ok c = hints_no _ _ _ _ _ c.holds.ensures c.hint_number-number.ensures c.if-number-ne0.false c.hints_ok.ensures (ap not c.if-not-hints_ok.true)

pub past-requires : goal.past-requires
past-requires c = let l = hints_fit _ c.args.g c.args.c.at c.args.body.now c.holds.ensures c.hint_number-number.ensures c.if-number-ne0.false in search rules

pub returns : goal.returns
returns c = hints_yes _ _ _ _ _ c.holds.ensures c.hint_number-number.ensures c.if-number-ne0.false c.hints_ok.ensures (ap not c.if-not-hints_ok.false) c.past.ensures
