use Rattle.sheet.proofs.Written.{numbers_put}
use Rattle.sheet.proofs.text.put_numbers.Goals as goal

pub returns : goal.returns
returns c =
    numbers_put _ _ _ _ _ _ _ _ c.put_number-a.ensures c.put_number-b.ensures c.put_number-c.ensures c.coverage.ensures c.put_number-d.ensures
    c.put_byte.ensures
