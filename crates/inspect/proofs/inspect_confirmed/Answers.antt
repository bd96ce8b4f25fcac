use Rattle.inspect.proofs.Sections.{TookConfirmed, confirmed_taken, counted_refused}
use Rattle.inspect.proofs.Tails.{stops, left_over, all_done}
use Rattle.inspect.specs.Tails.{from_confirmed}
use mathlib.Core.Path.{sym, ◌∙◌}
use borrow.Author.Tests.{ltb-true, ltb-false}
use Rattle.inspect.proofs.inspect_confirmed.Goals as goal

pub returns-then-left_over : goal.returns-then-left_over
returns-then-left_over c =
    left_over _ _ _ _ _ _ ((let got : TookConfirmed c.args.area c.args.h c.args.g.most c.args.body.now c.args.c.at
    c.in-Number.count c.in-Number.d = confirmed_taken _ _ _ _ _ c.requires c.confirmed_section.ensures c.in-Number.is in got)) (ltb-true _ _ (sym c.left_over.ensures ∙ c.if-left_over.true))

pub returns-in-Refused : goal.returns-in-Refused
unfolding from_confirmed
returns-in-Refused c = stops _ (counted_refused _ _ _ _ _ c.requires c.confirmed_section.ensures c.in-Refused.is)

pub returns-else-left_over : goal.returns-else-left_over
returns-else-left_over c =
    all_done _ _ _ _ _ _ ((let got : TookConfirmed c.args.area c.args.h c.args.g.most c.args.body.now c.args.c.at
    c.in-Number.count c.in-Number.d = confirmed_taken _ _ _ _ _ c.requires c.confirmed_section.ensures c.in-Number.is in got)) (ltb-false _ _ (sym c.left_over.ensures ∙ c.if-left_over.false)) c.found_by.ensures
