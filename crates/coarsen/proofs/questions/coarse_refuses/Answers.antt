use mathlib.Core.Bool.{not}
use mathlib.Core.Path.{ap}
use Rattle.coarsen.proofs.Asked.{refused_first, passed_four, interval_there, area_there, refused_47, widens, refused_48, refused_3, none_refused}
use Rattle.coarsen.proofs.questions.coarse_refuses.Goals as goal

pub returns-then-number-ne0 : goal.returns-then-number-ne0
returns-then-number-ne0 c = refused_first _ _ _ _ c.refuses-number.ensures c.if-number-ne0.true

pub question47-requires : goal.question47-requires
question47-requires c = interval_there _ _ c.refuses-number.ensures c.if-number-ne0.false

pub returns-then-not-question47 : goal.returns-then-not-question47
returns-then-not-question47 c = refused_47 _ _ _ _ c.refuses-number.ensures c.if-number-ne0.false c.question47.ensures (ap not c.if-not-question47.true)

pub question48-requires : goal.question48-requires
question48-requires c = widens _ _ _ c.question47.ensures (passed_four _ _ c.refuses-number.ensures c.if-number-ne0.false) (ap not c.if-not-question47.false)

pub returns-then-not-question48 : goal.returns-then-not-question48
returns-then-not-question48 c = refused_48 _ _ _ _ c.refuses-number.ensures c.if-number-ne0.false c.question47.ensures (ap not c.if-not-question47.false) c.question48.ensures (ap not c.if-not-question48.true)

pub question3-requires : goal.question3-requires
question3-requires c = area_there _ _ _ _ _ _ (passed_four _ _ c.refuses-number.ensures c.if-number-ne0.false) c.at_interval.ensures

pub returns-then-not-question3 : goal.returns-then-not-question3
returns-then-not-question3 c =
    refused_3 _ _ _ _ c.refuses-number.ensures c.if-number-ne0.false c.question47.ensures (ap not c.if-not-question47.false) c.question48.ensures (ap not c.if-not-question48.false)
    c.at_interval.ensures c.question3.ensures (ap not c.if-not-question3.true)

pub returns : goal.returns
returns c =
    none_refused _ _ _ _ c.refuses-number.ensures c.if-number-ne0.false c.question47.ensures (ap not c.if-not-question47.false) c.question48.ensures (ap not c.if-not-question48.false)
    c.at_interval.ensures c.question3.ensures (ap not c.if-not-question3.false)
