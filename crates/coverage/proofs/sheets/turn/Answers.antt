use Rattle.std.proofs.Common.{rules}
use Rattle.coverage.proofs.Tables.{more_rows}
use Rattle.coverage.proofs.sheets.turn.Goals as goal

pub returns : goal.returns
returns c = (search rules, more_rows c.args.s.count c.requires.0 c.answer_line-written.ensures c.requires.1)
