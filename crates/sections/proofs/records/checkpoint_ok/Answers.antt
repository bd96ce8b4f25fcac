use Rattle.tables.proofs.Tests.{product_fits}
use borrow.Author.Rules.{rules}
use Rattle.sections.proofs.records.checkpoint_ok.Goals as goal

pub overflow_mul-most : goal.overflow_mul-most
overflow_mul-most c = record { fits = product_fits _ _ (search rules) (search rules) }
