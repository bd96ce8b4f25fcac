use Rattle.inspect.proofs.Sections.{TookLsns, lsns_taken, taken_refused}
use Rattle.inspect.proofs.Tails.{stops, goes_on}
use Rattle.inspect.specs.Tails.{from_malformed}
use Rattle.inspect.proofs.inspect_malformed.Goals as goal

pub inspect_hints-requires : goal.inspect_hints-requires
inspect_hints-requires c = ((let got : TookLsns c.args.area c.args.h c.args.front c.args.body.now c.args.c.at c.in-Behind.d = lsns_taken c.args.area c.args.h _ _ _ c.requires c.inspect_lsns.ensures c.in-Behind.is in got)).inside

pub returns-in-Refused : goal.returns-in-Refused
unfolding from_malformed
returns-in-Refused c = stops _ (taken_refused _ c.inspect_lsns.ensures c.in-Refused.is)

pub returns-in-Behind : goal.returns-in-Behind
unfolding from_malformed
returns-in-Behind c = goes_on _ ((let got : TookLsns c.args.area c.args.h c.args.front c.args.body.now c.args.c.at c.in-Behind.d = lsns_taken c.args.area c.args.h _ _ _ c.requires c.inspect_lsns.ensures c.in-Behind.is in got)).is c.inspect_hints.ensures
