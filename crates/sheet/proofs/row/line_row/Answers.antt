use Rattle.sheet.proofs.Rows.{no_line, a_line}
use Rattle.sheet.proofs.row.line_row.Goals as goal

pub returns-in-Broken : goal.returns-in-Broken
returns-in-Broken c = no_line _ _ (rw c.in-Broken.is at c.parse.ensures.0)

pub returns-in-Line : goal.returns-in-Line
returns-in-Line c = a_line _ _ _ _ _ _ (rw c.in-Line.is at c.parse.ensures.0) c.file_row.ensures
