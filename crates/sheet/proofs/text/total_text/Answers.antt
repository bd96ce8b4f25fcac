use Rattle.sheet.proofs.Written.{total_written}
use Rattle.sheet.proofs.text.total_text.Goals as goal

pub returns : goal.returns
returns c = total_written _ _ _ _ _ _ c.put_bytes-at.ensures c.put_numbers.ensures c.totals-r.ensures.0
