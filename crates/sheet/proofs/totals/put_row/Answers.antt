use Rattle.sheet.proofs.Sums.{row_put, row_full}
use borrow.Author.Rules.{rules}
use Rattle.sheet.proofs.totals.put_row.Goals as goal

pub returns-then-n-lt1000 : goal.returns-then-n-lt1000
returns-then-n-lt1000 c = rw c.put_at.ensures (row_put c.args.table.now c.args.n c.args.row (search rules) (search rules))

pub returns-else-n-lt1000 : goal.returns-else-n-lt1000
returns-else-n-lt1000 c = row_full c.args.table.now c.args.n c.args.row (search rules)
