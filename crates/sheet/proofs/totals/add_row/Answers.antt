use Rattle.sheet.proofs.Sums.{not_added, row_added, small_by}
use native.Mathlib.Omega.{arith}
use Prim.Native.Nat.{◌+◌}
use borrow.Author.Rules.{rules}
use Rattle.sheet.proofs.totals.add_row.Goals as goal

pub returns-then-table-at-ne1 : goal.returns-then-table-at-ne1
returns-then-table-at-ne1 c = (not_added c.args.t c.args.table.now c.args.i c.if-table-at-ne1.true, small_by c.args.i (c.args.i + 1) c.args.t (omega arith) c.requires.2)

pub returns : goal.returns
returns c = (
  row_added c.args.t c.args.table.now c.args.i c.if-table-at-ne1.false,
  record { checkpoints = search rules; boundaries = search rules; held = search rules },
)
