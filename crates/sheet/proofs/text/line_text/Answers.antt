use Rattle.sheet.proofs.Written.{line_written}
use Rattle.sheet.proofs.text.line_text.Goals as goal

pub returns : goal.returns
returns c = line_written _ _ _ _ _ _ _ c.parse-said.ensures.0 c.put_name-at.ensures c.put_answer.ensures
