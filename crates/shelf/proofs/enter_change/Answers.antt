use Rattle.rules_shelf.specs.Shelf.{area_of}
use Rattle.shelf.specs.Steps.{list_of}
use Rattle.shelf.proofs.Laws.{enter_fits, changes_refused, changes_done, enter_refused, enter_done}
use Rattle.shelf.proofs.enter_change.Goals as goal

pub returns-then-number-ne0 : goal.returns-then-number-ne0
returns-then-number-ne0 c =
    changes_refused {k = c.args.a} _ _ _ c.requires c.unchanged.ensures
    (enter_refused c.args.shelf c.args.room (list_of c.args.a) (area_of c.args.g) c.args.g.len
    c.enter_number-number.ensures c.if-number-ne0.true)

pub entered-requires : goal.entered-requires
entered-requires c =
    let f = enter_fits c.args.shelf c.args.room (list_of c.args.a) (area_of c.args.g) c.args.g.len
    c.enter_number-number.ensures c.if-number-ne0.false in
    (c.requires, f.0, f.1)

pub changed-requires : goal.changed-requires
changed-requires c =
    (enter_fits c.args.shelf c.args.room (list_of c.args.a) (area_of c.args.g) c.args.g.len
    c.enter_number-number.ensures c.if-number-ne0.false).0

pub returns : goal.returns
returns c =
    changes_done {k = c.entered.result} _ _ _ c.entered.ensures c.changed.ensures
    (enter_done c.args.shelf c.args.room (list_of c.args.a) (area_of c.args.g) c.args.g.len
    c.enter_number-number.ensures c.if-number-ne0.false)
