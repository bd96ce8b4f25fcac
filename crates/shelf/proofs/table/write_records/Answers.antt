use mathlib.Core.Path.{sym}
use native.Mathlib.Omega.{arith}
use Rattle.shelf.proofs.Calls.{written_is}
use Rattle.shelf.proofs.table.write_records.Goals as goal

pub returns : goal.returns
returns c =
    rw c.copy_from_slice.ensures.after (sym (written_is c.args.n c.args.a.all c.args.s.now (omega arith) c.requires.1))
