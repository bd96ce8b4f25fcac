use mathlib.Core.Path.{refl, sym}
use Rattle.shelf.proofs.Calls.{clamp_few, fits_table, gives_out, enter_answered}
use Rattle.shelf.proofs.table.seek_raw_shelf_enter.Goals as goal

pub take_records-a-requires : goal.take_records-a-requires
take_records-a-requires c = clamp_few c.args.shelf _ _ c.clamped.ensures

pub write_records-requires : goal.write_records-requires
write_records-requires c =
    rw c.take_records-a.ensures.1
    (fits_table (enter_answered c.args.shelf c.args.s.now c.args.g) c.clamped.ensures c.take_records-a.ensures.0
    c.enter_change-c.ensures c.kept_of.ensures (sym c.kept_of.ensures.1))

pub returns : goal.returns
returns c =
    gives_out (enter_answered c.args.shelf c.args.s.now c.args.g) c.clamped.ensures c.take_records-a.ensures.0
    c.enter_change-c.ensures c.kept_of.ensures (sym c.kept_of.ensures.1)
    (rw c.take_records-a.ensures.1 at c.write_records.ensures) refl
