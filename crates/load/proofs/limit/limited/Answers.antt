use native.Mathlib.Omega.{arith}
use Rattle.load.proofs.limit.Limit.{places_inside, parts_inside, kept_is}
use Rattle.load.proofs.limit.limited.Goals as goal

pub fit_frames-frames-requires : goal.fit_frames-frames-requires
fit_frames-frames-requires c = rw c.frames_from.ensures (places_inside (λ i. (c.type_inv.bytes i).fits) c.requires)

pub parts_from-at-requires : goal.parts_from-at-requires
parts_from-at-requires c =
    let r = parts_inside (λ i. (c.type_inv.bytes i).fits) c.requires in
    omega (arith, r)

pub within_parts-parts-requires : goal.within_parts-parts-requires
within_parts-parts-requires c = rw c.parts_from-at.ensures (parts_inside (λ i. (c.type_inv.bytes i).fits) c.requires)

pub returns : goal.returns
returns c =
    kept_is _ (λ i. (c.type_inv.bytes i).fits) c.requires c.min-budget.ensures c.frames_from.ensures c.fit_frames-frames.ensures
    c.parts_from-at.ensures c.within_parts-parts.ensures c.min-most.ensures c.min.ensures
    (rw c.min-2.ensures at c.min-3.ensures)
