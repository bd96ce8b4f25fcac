use Rattle.sections.proofs.Questions.{lsn_fits}
use Rattle.tables.proofs.Tests.{product_fits}
use borrow.Author.Rules.{rules}
use Rattle.recorder.proofs.record.due.Goals as goal

pub overflow_mul-at : goal.overflow_mul-at
overflow_mul-at c = record { fits = product_fits _ _ (search rules) (search rules) }

pub overflow_add-at : goal.overflow_add-at
overflow_add-at c = record { fits = lsn_fits _ _ _ c.requires.0 (search rules) (search rules) }
