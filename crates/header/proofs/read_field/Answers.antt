use native.Mathlib.Omega.{arith}
use Rattle.header.proofs.Places.{number_byte, read_place}
use borrow.Author.Rules.{rules}
use Rattle.header.proofs.read_field.Goals as goal

pub returns-then-f-eq8 : goal.returns-then-f-eq8
returns-then-f-eq8 c = read_place 8 _ c.field_of-f.ensures c.if-f-eq8.true _ c.read_u64.ensures (search rules)

pub returns-then-f-eq4 : goal.returns-then-f-eq4
returns-then-f-eq4 c = read_place 4 _ c.field_of-f.ensures c.if-f-eq4.true _ c.read_u32.ensures (search rules)

pub bounds-body-at : goal.bounds-body-at
bounds-body-at c =
    let w = c.field_of-f.ensures.single c.if-f-eq8.false c.if-f-eq4.false in
    omega (arith, c.field_of-f.ensures.within, c.requires.0)

pub overflow_cast-result-2 : goal.overflow_cast-result-2
overflow_cast-result-2 c =
    let l = (c.type_inv.body c.field_of-f.result.offset).fits in
    record { fits = omega arith }

pub returns : goal.returns
returns c =
    read_place 1 _ c.field_of-f.ensures (c.field_of-f.ensures.single c.if-f-eq8.false c.if-f-eq4.false) _ (number_byte _ _)
    (c.type_inv.body c.field_of-f.result.offset).fits
