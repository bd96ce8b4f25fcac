use Rattle.save.proofs.write.Hints.{hint_hash}
use Rattle.save.proofs.write.put_hint.Goals as goal

pub returns : goal.returns
returns c = (c.write_given.ensures, hint_hash _ _ _ _ c.sum_u32.ensures c.sum_u32-2.ensures)
