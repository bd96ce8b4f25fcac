use native.Mathlib.Omega.{arith}
use Rattle.tables.proofs.Tests.{product_fits, product_most}
use borrow.Author.Rules.{rules}
use Rattle.sections.proofs.part_records.belongs_ok.Goals as goal

pub overflow_mul-lsn : goal.overflow_mul-lsn
overflow_mul-lsn c = record { fits = product_fits _ _ (search rules) (search rules) }

pub overflow_add-lsn : goal.overflow_add-lsn
overflow_add-lsn c = record { fits = omega (arith, product_most c.args.p.at c.args.interval (search rules) (search rules)) }
