use Rattle.inspect.proofs.Sections.{TookHints, hints_taken, headed_refused}
use Rattle.inspect.proofs.Tails.{stops, goes_on}
use Rattle.inspect.specs.Tails.{from_hints}
use Rattle.inspect.proofs.inspect_hints.Goals as goal

pub inspect_confirmed-requires : goal.inspect_confirmed-requires
inspect_confirmed-requires c = ((let got : TookHints c.args.area c.args.h c.args.body.now c.args.c.at c.in-Header.g c.in-Header.d = hints_taken _ _ _ _ c.requires c.hint_section.ensures c.in-Header.is in got)).inside

pub returns-in-Refused : goal.returns-in-Refused
unfolding from_hints
returns-in-Refused c = stops _ (headed_refused _ _ _ _ c.requires c.hint_section.ensures c.in-Refused.is)

pub returns-in-Header : goal.returns-in-Header
unfolding from_hints
returns-in-Header c = let y = (let got : TookHints c.args.area c.args.h c.args.body.now c.args.c.at c.in-Header.g c.in-Header.d = hints_taken _ _ _ _ c.requires c.hint_section.ensures c.in-Header.is in got) in goes_on _ y.is (rw (y.header, y.rest) c.inspect_confirmed.ensures)
