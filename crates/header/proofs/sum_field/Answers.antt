use mathlib.Core.Path.{refl}
use Rattle.field.proofs.Number.{encode_low}
use Rattle.header.proofs.Places.{sum_place, sum_one}
use Rattle.header.proofs.sum_field.Goals as goal

pub returns-then-f-eq8 : goal.returns-then-f-eq8
returns-then-f-eq8 c = sum_place 8 _ _ _ _ c.field_of-f.ensures c.if-f-eq8.true refl c.sum_u64.ensures

pub returns-then-f-eq4 : goal.returns-then-f-eq4
returns-then-f-eq4 c = sum_place 4 _ _ _ _ c.field_of-f.ensures c.if-f-eq4.true (encode_low 4 _) c.sum_u32.ensures

pub returns : goal.returns
returns c = sum_place 1 c.args.v c.args.v c.args.sum _ c.field_of-f.ensures (c.field_of-f.ensures.single c.if-f-eq8.false c.if-f-eq4.false) refl (sum_one c.args.sum c.args.v _ c.step.ensures)
