use mathlib.Core.Path.{sym, ◌∙◌}
use Rattle.sheet.proofs.Rows.{no_range, asked_ok, no_row, row_needs, row_found}
use Rattle.sheet.proofs.row.row_of.Goals as goal

pub returns-then-not-range_ok : goal.returns-then-not-range_ok
returns-then-not-range_ok c = no_range _ _ _ (sym c.range_ok.ensures ∙ c.if-not-range_ok.true)

pub inspect-requires : goal.inspect-requires
inspect-requires c = rw c.asked_key-key.ensures (asked_ok _ _ _ (sym c.range_ok.ensures ∙ c.if-not-range_ok.false))

pub found_row-requires : goal.found_row-requires
found_row-requires c =
    row_needs _ _ _ (sym c.range_ok.ensures ∙ c.if-not-range_ok.false)
    (rw c.asked_key-key.ensures at (sym c.in-Passed.is ∙ c.inspect.ensures)) (λ i. (c.type_inv.bytes i).fits)

pub returns-in-Refused : goal.returns-in-Refused
returns-in-Refused c =
    no_row _ _ _ (sym c.range_ok.ensures ∙ c.if-not-range_ok.false)
    (rw c.asked_key-key.ensures at (sym c.in-Refused.is ∙ c.inspect.ensures))

pub returns-in-Passed : goal.returns-in-Passed
returns-in-Passed c =
    row_found _ _ _ (sym c.range_ok.ensures ∙ c.if-not-range_ok.false)
    (rw c.asked_key-key.ensures at (sym c.in-Passed.is ∙ c.inspect.ensures)) _ c.found_row.ensures
