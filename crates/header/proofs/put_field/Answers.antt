use mathlib.Core.Path.{refl, ◌∙◌}
use native.Mathlib.Omega.{arith}
use Rattle.field.proofs.Number.{encode_low}
use Rattle.header.proofs.Places.{put_place, put_byte}
use Rattle.header.proofs.put_field.Goals as goal

pub bounds-out-at : goal.bounds-out-at
bounds-out-at c =
    let w = c.field_of-f.ensures.single c.if-f-eq8.false c.if-f-eq4.false in
    omega (arith, c.field_of-f.ensures.within, c.requires.0)

pub returns-then-f-eq8 : goal.returns-then-f-eq8
returns-then-f-eq8 c = c.write_u64.ensures ∙ put_place 8 _ _ _ c.field_of-f.ensures c.if-f-eq8.true refl

pub returns-then-f-eq4 : goal.returns-then-f-eq4
returns-then-f-eq4 c = c.write_u32.ensures ∙ put_place 4 _ _ _ c.field_of-f.ensures c.if-f-eq4.true (encode_low 4 _)

pub returns-else-f-eq4 : goal.returns-else-f-eq4
returns-else-f-eq4 c = put_byte _ _ _ ∙ put_place 1 _ _ _ c.field_of-f.ensures (c.field_of-f.ensures.single c.if-f-eq8.false c.if-f-eq4.false) refl
