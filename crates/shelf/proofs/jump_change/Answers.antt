use Rattle.rules_shelf.specs.Shelf.{area_of}
use native.Mathlib.Omega.{arith}
use Rattle.shelf.proofs.Laws.{jump_fits, changes_refused, changes_absent, changes_done, jump_refused}
use Rattle.shelf.proofs.Laws.{jump_absent, jump_done}
use Rattle.shelf.proofs.jump_change.Goals as goal

pub returns-then-number-ne0 : goal.returns-then-number-ne0
returns-then-number-ne0 c =
    changes_refused {k = c.args.a} _ _ _ c.requires c.unchanged.ensures
    (jump_refused c.args.shelf c.args.room c.args.a (area_of c.args.g) c.jump_number-number.ensures
    c.if-number-ne0.true)

pub returns-then-i-a : goal.returns-then-i-a
returns-then-i-a c =
    changes_absent {k = c.args.a} _ _ c.requires c.unchanged-then-i-a.ensures
    (jump_absent c.args.shelf c.args.room c.args.a (area_of c.args.g) c.jump_number-number.ensures
    c.if-number-ne0.false c.requires c.place-i.ensures.0 c.if-i-a.true)

pub overflow_add-shelf : goal.overflow_add-shelf
overflow_add-shelf c =
    let l = jump_fits c.args.shelf c.args.room c.args.a (area_of c.args.g) c.jump_number-number.ensures
    c.if-number-ne0.false in
    omega arith

pub restamped-requires : goal.restamped-requires
restamped-requires c =
    let l = c.place-i.ensures.1 in
    let n = c.if-i-a.false in
    (c.requires, omega arith)

pub changed-requires : goal.changed-requires
changed-requires c =
    jump_fits c.args.shelf c.args.room c.args.a (area_of c.args.g) c.jump_number-number.ensures
    c.if-number-ne0.false

pub returns : goal.returns
returns c =
    let l = c.place-i.ensures.1 in
    let n = c.if-i-a.false in
    changes_done {k = c.restamped.result} _ _ _ c.restamped.ensures c.changed.ensures
    (jump_done c.args.shelf c.args.room c.args.a (area_of c.args.g) c.jump_number-number.ensures
    c.if-number-ne0.false c.requires c.place-i.ensures.0 (omega arith))
