use mathlib.Core.Bool.{not}
use mathlib.Core.Path.{ap}
use Rattle.inspect.proofs.hint_sections.Sections.{confirmed_asked, confirmed_room, confirmed_no, confirmed_yes}
use borrow.Author.Rules.{rules}
use Rattle.inspect.proofs.hint_sections.confirmed_list.Goals as goal

pub returns-then-number-ne0 : goal.returns-then-number-ne0
returns-then-number-ne0 c = confirmed_asked _ _ _ _ _ _ _ c.holds.ensures c.confirmed_number-number.ensures c.if-number-ne0.true

pub confirmations_ok-requires : goal.confirmations_ok-requires
confirmations_ok-requires c = confirmed_room c.args.area c.args.h c.args.most _ c.args.reserved c.args.body.now c.args.c.at c.holds.ensures c.confirmed_number-number.ensures c.if-number-ne0.false

pub returns-then-not-confirmations_ok : goal.returns-then-not-confirmations_ok
returns-then-not-confirmations_ok c = confirmed_no _ _ _ _ _ _ _ c.holds.ensures c.confirmed_number-number.ensures c.if-number-ne0.false c.confirmations_ok.ensures (ap not c.if-not-confirmations_ok.true)

pub past-requires : goal.past-requires
past-requires c = let l = confirmed_room c.args.area c.args.h c.args.most c.args.n c.args.reserved c.args.body.now c.args.c.at c.holds.ensures c.confirmed_number-number.ensures c.if-number-ne0.false in search rules

pub returns : goal.returns
returns c = confirmed_yes _ _ _ _ _ _ _ c.holds.ensures c.confirmed_number-number.ensures c.if-number-ne0.false c.confirmations_ok.ensures (ap not c.if-not-confirmations_ok.false) c.past.ensures
