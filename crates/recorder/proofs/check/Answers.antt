use mathlib.Core.Bool.{not}
use mathlib.Core.Path.{ap}
use mathlib.Core.Path.{sym, ◌∙◌}
use Rattle.rules.specs.Refusals.{number_in, refusal_number}
use Rattle.recorder.proofs.Questions.{no_1, no_2, no_3, spaced, roomy, no_4, no_0}
use Rattle.recorder.proofs.check.Goals as goal

pub returns-then-not-question1 : goal.returns-then-not-question1
unfolding number_in refusal_number
returns-then-not-question1 c = no_1 _ _ c.question1.ensures (ap not c.if-not-question1.true)

pub returns-then-not-question2 : goal.returns-then-not-question2
unfolding number_in refusal_number
returns-then-not-question2 c = no_2 _ _ c.question1.ensures (ap not c.if-not-question1.false) c.question2.ensures (ap not c.if-not-question2.true)

pub area_boundaries-b-requires : goal.area_boundaries-b-requires
area_boundaries-b-requires c = sym c.question1.ensures ∙ c.if-not-question1.false

pub returns-then-not-scan_room : goal.returns-then-not-scan_room
unfolding number_in refusal_number
returns-then-not-scan_room c =
    no_3 _ _ c.question1.ensures (ap not c.if-not-question1.false) c.question2.ensures (ap not c.if-not-question2.false)
    c.area_boundaries-b.ensures c.scan_room.ensures (ap not c.if-not-scan_room.true)

pub held_ok-requires : goal.held_ok-requires
held_ok-requires c =
    spaced (roomy _ _ c.question1.ensures (ap not c.if-not-question1.false) c.question2.ensures
    (ap not c.if-not-question2.false) c.area_boundaries-b.ensures c.scan_room.ensures
    (ap not c.if-not-scan_room.false))

pub returns-then-not-held_ok : goal.returns-then-not-held_ok
unfolding number_in refusal_number
returns-then-not-held_ok c =
    no_4 _ _ c.question1.ensures (ap not c.if-not-question1.false) c.question2.ensures (ap not c.if-not-question2.false)
    c.area_boundaries-b.ensures c.scan_room.ensures (ap not c.if-not-scan_room.false)
    c.held_ok.ensures (ap not c.if-not-held_ok.true)

pub returns : goal.returns
unfolding number_in refusal_number
returns c =
    no_0 _ _ c.question1.ensures (ap not c.if-not-question1.false) c.question2.ensures (ap not c.if-not-question2.false)
    c.area_boundaries-b.ensures c.scan_room.ensures (ap not c.if-not-scan_room.false)
    c.held_ok.ensures (ap not c.if-not-held_ok.false)
