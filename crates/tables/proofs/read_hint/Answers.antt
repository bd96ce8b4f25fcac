use Rattle.tables.proofs.Kept.{kept_made}
use borrow.Author.Rules.{rules}
use Rattle.tables.proofs.read_hint.Goals as goal

pub returns : goal.returns
returns c = kept_made _ _ (λ i. (c.type_inv.t i).fits) c.read_u32.ensures c.read_u32-2.ensures (search rules)
