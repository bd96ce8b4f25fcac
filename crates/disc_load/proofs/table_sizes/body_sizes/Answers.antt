use mathlib.Core.Path.{refl}
use Rattle.disc_load.proofs.ask.Asking.{inside_at}
use Rattle.disc_load.proofs.table_sizes.Sizing.{absent, present}
use Rattle.disc_load.proofs.table_sizes.body_sizes.Goals as goal

pub slice_bounds-file_sizes-end : goal.slice_bounds-file_sizes-end
slice_bounds-file_sizes-end c = inside_at c.args.bytes.now c.in-At.is c.requires

pub returns-in-Absent : goal.returns-in-Absent
returns-in-Absent c = absent c.args.area c.args.limit c.args.bytes.now c.in-Absent.is

pub returns-in-At : goal.returns-in-At
returns-in-At c = present c.args.area c.args.limit c.args.bytes.now _ _ c.in-At.is refl c.file_sizes.ensures c.body_sized.ensures
