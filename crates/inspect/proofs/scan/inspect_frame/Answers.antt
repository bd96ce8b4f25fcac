use mathlib.Core.Path.{sym, ◌∙◌}
use Rattle.inspect.proofs.cursor.Words.{GotPair, pair_got, pair_short}
use Rattle.inspect.proofs.scan.Frames.{frame_short, frame_no, frame_cut, frame_room, frame_whole}
use borrow.Author.Rules.{rules}
use Rattle.inspect.proofs.scan.inspect_frame.Goals as goal

pub returns-in_default : goal.returns-in_default
returns-in_default c = frame_short _ _ _ _ _ (pair_short _ _ c.pair.ensures c.in_default.is)

pub returns-then-not-header_ok : goal.returns-then-not-header_ok
returns-then-not-header_ok c = frame_no _ _ _ _ _ ((let got : GotPair c.args.body.now c.args.c.at c.in-Numbers.start c.in-Numbers.len c.in-Numbers.d = pair_got _ _ c.pair.ensures c.in-Numbers.is in got)) (sym c.header_ok.ensures ∙ c.if-not-header_ok.true)

pub returns-then-not-holds : goal.returns-then-not-holds
returns-then-not-holds c = frame_cut _ _ _ _ _ ((let got : GotPair c.args.body.now c.args.c.at c.in-Numbers.start c.in-Numbers.len c.in-Numbers.d = pair_got _ _ c.pair.ensures c.in-Numbers.is in got)) (sym c.header_ok.ensures ∙ c.if-not-header_ok.false) c.holds.ensures c.if-not-holds.true

pub past-requires : goal.past-requires
past-requires c = let l = frame_room _ _ _ _ _ ((let got : GotPair c.args.body.now c.args.c.at c.in-Numbers.start c.in-Numbers.len c.in-Numbers.d = pair_got _ _ c.pair.ensures c.in-Numbers.is in got)) (sym c.header_ok.ensures ∙ c.if-not-header_ok.false) c.holds.ensures c.if-not-holds.false in search (rules, c, l)

pub returns : goal.returns
returns c = frame_whole _ _ _ _ _ ((let got : GotPair c.args.body.now c.args.c.at c.in-Numbers.start c.in-Numbers.len c.in-Numbers.d = pair_got _ _ c.pair.ensures c.in-Numbers.is in got)) (sym c.header_ok.ensures ∙ c.if-not-header_ok.false) c.holds.ensures c.if-not-holds.false c.past.ensures
