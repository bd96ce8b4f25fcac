use Rattle.lacks.proofs.Parts.{frame_inside, pair_new}
use Rattle.lacks.proofs.pair_at.Goals as goal

pub source_to-p-requires : goal.source_to-p-requires
source_to-p-requires c =
    let h = c.requires.0.own in
    (h.is, h.low, c.requires.1.room)

pub source_to-q-requires : goal.source_to-q-requires
source_to-q-requires c =
    let h = c.requires.0.other in
    (h.is, h.low, c.requires.2.room)

pub get_header-h-requires : goal.get_header-h-requires
get_header-h-requires c = c.requires.1.room

pub get_header-i-requires : goal.get_header-i-requires
get_header-i-requires c = c.requires.2.room

pub stretch_common-c-requires : goal.stretch_common-c-requires
stretch_common-c-requires c = (
  frame_inside _ _ _ c.requires.1 _ c.source_to-p.ensures.1 c.get_header-h.ensures c.requires.3,
  frame_inside _ _ _ c.requires.2 _ c.source_to-q.ensures.1 c.get_header-i.ensures c.requires.4,
)

pub returns : goal.returns
returns c =
    pair_new _ _ _ _ _ _ _ _ c.requires.1 c.requires.2 c.requires.3 c.requires.4 c.source_to-p.ensures
    c.source_to-q.ensures c.get_header-h.ensures
    c.get_header-i.ensures c.stretch_common-c.ensures
