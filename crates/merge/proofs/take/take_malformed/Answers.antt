use Rattle.merge.proofs.take.Copies.{malformed_taken, malformed_kept}
use Rattle.merge.proofs.take.take_malformed.Goals as goal

pub returns-then-go : goal.returns-then-go
returns-then-go c = rw c.if-go.true (malformed_taken _ _ c.requires (λ i. (c.type_inv.other i).fits) c.copy_first.ensures)

pub returns-else-go : goal.returns-else-go
returns-else-go c = rw c.if-go.false (malformed_kept _ _ c.requires (λ i. (c.type_inv.t i).fits))
