use mathlib.Core.Path.{refl}
use Rattle.shelf.proofs.Calls.{drop_needs, drop_fits, drop_out}
use Rattle.shelf.proofs.table.drop_record.Goals as goal

pub dropped-b-requires : goal.dropped-b-requires
dropped-b-requires c =
    drop_needs c.args.n c.args.i c.take_records.result c.args.s.now c.take_records.ensures.0 c.requires

pub write_records-requires : goal.write_records-requires
write_records-requires c =
    rw c.take_records.ensures.1
    (drop_fits c.args.n c.args.i c.take_records.result c.dropped-b.result c.dropped-b.result.n c.args.s.now
    c.take_records.ensures.0 c.requires c.dropped-b.ensures refl)

pub returns : goal.returns
returns c =
    drop_out c.args.n c.args.i c.take_records.result c.dropped-b.result c.dropped-b.result.n c.args.s.now
    c.write_records.new.s c.take_records.ensures.0 c.requires c.dropped-b.ensures refl
    (rw c.take_records.ensures.1 at c.write_records.ensures)
