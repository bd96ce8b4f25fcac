use mathlib.Core.Bool.{not}
use mathlib.Core.Path.{ap}
use mathlib.Core.Path.{◌≡◌}
use Rattle.tables.specs.Files.{place_at}
use Rattle.inspect.specs.Steps.{part_rule}
use Rattle.inspect.proofs.scan.Parts.{Near, near, part_far, place_room, place_moved, header_room, part_here_lemma, placed_no, placed_yes}
use Rattle.inspect.proofs.scan.place_part.Goals as goal
use Rattle.inspect.proofs.scan.place_part.Goals.{After-place_by-place}

-- where its frame begins
begins_at : (c : goal.After-place_by-place) → c.place_by-place.result ≡ place_at c.args.frames.now 0 c.args.p.frame
begins_at c =
    place_moved c.requires.0 c.requires.1 _ ((let got : Near c.args.h.frames c.args.last.part c.args.p = near c.requires.0 c.requires.1 _ c.near_ok.ensures (ap not c.if-not-near_ok.false) in got)) c.place_by-place.ensures

pub returns-then-not-near_ok : goal.returns-then-not-near_ok
returns-then-not-near_ok c = part_far c.requires.0 c.requires.1 _ _ c.near_ok.ensures (ap not c.if-not-near_ok.true)

pub place_by-place-requires : goal.place_by-place-requires
place_by-place-requires c = place_room c.requires.0 c.requires.1 _ ((let got : Near c.args.h.frames c.args.last.part c.args.p = near c.requires.0 c.requires.1 _ c.near_ok.ensures (ap not c.if-not-near_ok.false) in got))

pub header_at-f-requires : goal.header_at-f-requires
header_at-f-requires c = header_room c.requires.0 c.requires.1 _ ((let got : Near c.args.h.frames c.args.last.part c.args.p = near c.requires.0 c.requires.1 _ c.near_ok.ensures (ap not c.if-not-near_ok.false) in got)) (begins_at c)

pub returns-then-not-here_ok : goal.returns-then-not-here_ok
returns-then-not-here_ok c =
    placed_no _ _ _ ((let got : part_rule c.args.area c.args.h c.args.checkpoints.now c.args.frames.now
    c.args.begins c.args.last c.args.p ≡ c.here_ok.result = part_here_lemma c.requires.0 c.requires.1 _ ((let got : Near c.args.h.frames c.args.last.part c.args.p = near c.requires.0 c.requires.1 _ c.near_ok.ensures (ap not c.if-not-near_ok.false) in got)) (begins_at (goal.at.returns-then-not-here_ok c).After-place_by-place) c.header_at-f.ensures
    c.near_ok.ensures (ap not c.if-not-near_ok.false) c.here_ok.ensures in got)) (ap not c.if-not-here_ok.true)

pub returns : goal.returns
returns c =
    placed_yes _ _ _ ((let got : part_rule c.args.area c.args.h c.args.checkpoints.now c.args.frames.now
    c.args.begins c.args.last c.args.p ≡ c.here_ok.result = part_here_lemma c.requires.0 c.requires.1 _ ((let got : Near c.args.h.frames c.args.last.part c.args.p = near c.requires.0 c.requires.1 _ c.near_ok.ensures (ap not c.if-not-near_ok.false) in got)) (begins_at (goal.at.returns c).After-place_by-place) c.header_at-f.ensures
    c.near_ok.ensures (ap not c.if-not-near_ok.false) c.here_ok.ensures in got)) (ap not c.if-not-here_ok.false) (begins_at (goal.at.returns c).After-place_by-place)
