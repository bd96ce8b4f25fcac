use Rattle.sheet.proofs.Written.{refused_put}
use Rattle.sheet.proofs.text.put_refused.Goals as goal

pub returns : goal.returns
returns c = refused_put _ _ _ _ _ c.put_bytes-a.ensures c.put_number-b.ensures c.put_byte.ensures
