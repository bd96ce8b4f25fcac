use Rattle.sheet.proofs.Written.{name_told, dash_put, name_put}
use mathlib.Core.Path.{sym}
use lib.Seq.{length-take-le}
use Rattle.sheet.proofs.text.put_name.Goals as goal

pub slice_bounds-put_bytes-end : goal.slice_bounds-put_bytes-end
slice_bounds-put_bytes-end c = sym (length-take-le c.in-Line.k c.args.line.now (name_told _ _ _ _ _ c.in-Line.is c.requires))

pub returns-in-Broken : goal.returns-in-Broken
returns-in-Broken c = rw c.in-Broken.is (dash_put _ _ _ _ c.put_byte.ensures)

pub returns-in-Line : goal.returns-in-Line
returns-in-Line c = rw c.in-Line.is (name_put _ _ _ _ _ _ _ c.put_bytes.ensures)
