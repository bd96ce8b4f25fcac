use Rattle.std.proofs.Common.{sym}
use lib.Seq.{length-take-le}
use Rattle.sheet.proofs.Written.{name_told}
use Rattle.coverage.proofs.sheets.row_of_line.Goals as goal

pub slice_bounds-read_file-end : goal.slice_bounds-read_file-end
slice_bounds-read_file-end c = sym (length-take-le c.in-Line.k c.args.line.now (name_told _ _ _ _ _ c.in-Line.is c.parse.ensures.1))
