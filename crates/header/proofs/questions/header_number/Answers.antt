use Rattle.header.proofs.questions.Numbers.{number_no, number_yes}
use Rattle.header.proofs.questions.header_number.Goals as goal

pub returns-then-n-ne0 : goal.returns-then-n-ne0
returns-then-n-ne0 c = number_no _ _ _ c.key_number-n.ensures c.if-n-ne0.true

pub returns : goal.returns
returns c = number_yes _ _ _ c.key_number-n.ensures c.if-n-ne0.false c.size_number.ensures
