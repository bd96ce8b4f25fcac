use Rattle.load.proofs.Answers.{area_kept, no_room, room}
use Rattle.load.proofs.decide_room.Goals as goal

pub question3-requires : goal.question3-requires
question3-requires c = area_kept c.args.limit c.requires c.limited-y.ensures (λ i. (c.type_inv.bytes i).fits)

pub returns-then-not-question3 : goal.returns-then-not-question3
returns-then-not-question3 c = no_room _ _ c.requires c.limited-y.ensures c.question3.ensures c.if-not-question3.true

pub returns : goal.returns
returns c = room _ _ c.requires c.limited-y.ensures c.question3.ensures c.if-not-question3.false
