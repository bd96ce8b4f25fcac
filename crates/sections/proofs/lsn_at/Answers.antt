use Rattle.sections.proofs.Questions.{lsn_fits}
use Rattle.tables.proofs.Tests.{product_fits}
use borrow.Author.Rules.{rules}
use Rattle.sections.proofs.lsn_at.Goals as goal

pub overflow_mul-result : goal.overflow_mul-result
overflow_mul-result c = record { fits = product_fits _ _ (search rules) (search rules) }

pub overflow_add-result : goal.overflow_add-result
overflow_add-result c = record { fits = lsn_fits _ _ _ c.requires (search rules) (search rules) }
