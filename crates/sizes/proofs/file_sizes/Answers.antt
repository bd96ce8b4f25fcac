use mathlib.Core.Path.{sym, ◌∙◌}
use Rattle.sizes.proofs.Files.{no_area, no_file, area_found, found_sizes}
use Rattle.sizes.proofs.file_sizes.Goals as goal

pub returns-then-not-question1 : goal.returns-then-not-question1
returns-then-not-question1 c = no_area _ _ _ (sym c.question1.ensures ∙ c.if-not-question1.true)

pub inspect-read-requires : goal.inspect-read-requires
inspect-read-requires c = (sym c.question1.ensures ∙ c.if-not-question1.false)

pub limited_sizes-requires : goal.limited_sizes-requires
limited_sizes-requires c =
    area_found _ _ 0 (sym c.question1.ensures ∙ c.if-not-question1.false)
    (sym c.in-Passed.is ∙ c.inspect-read.ensures) (λ i. (c.type_inv.bytes i).fits)

pub returns-in-Refused : goal.returns-in-Refused
returns-in-Refused c =
    no_file _ _ _ (sym c.question1.ensures ∙ c.if-not-question1.false)
    (sym c.in-Refused.is ∙ c.inspect-read.ensures)

pub returns-in-Passed : goal.returns-in-Passed
returns-in-Passed c =
    found_sizes _ _ _ (sym c.question1.ensures ∙ c.if-not-question1.false)
    (sym c.in-Passed.is ∙ c.inspect-read.ensures) c.limited_sizes.ensures
