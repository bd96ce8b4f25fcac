use Rattle.rules_coverage.specs.Coverage.{number_text}
use Rattle.sheet.specs.Text.{puts}
use Rattle.sheet.proofs.text.put_number.Goals as goal

pub returns : goal.returns
unfolding number_text puts
returns c = cc (c.put_byte-q.ensures, c.put_decimal.ensures)
