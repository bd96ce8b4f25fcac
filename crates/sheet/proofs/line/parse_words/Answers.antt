use Rattle.sheet.specs.Lines.{parsed_from}
use Rattle.sheet.proofs.Lines.{no_number, a_number}
use mathlib.Core.Path.{sym, ◌∙◌}
use Rattle.sheet.proofs.line.parse_words.Goals as goal

pub returns-then-not-is_name : goal.returns-then-not-is_name
unfolding parsed_from
returns-then-not-is_name c = rw (sym c.is_name.ensures ∙ c.if-not-is_name.true)

pub returns-in_default : goal.returns-in_default
unfolding parsed_from
returns-in_default c = rw (sym c.is_name.ensures ∙ c.if-not-is_name.false, no_number _ (sym c.in_default.is ∙ c.read_number.ensures))

pub returns-in_default-read_number : goal.returns-in_default-read_number
unfolding parsed_from
returns-in_default-read_number c =
    rw (
      sym c.is_name.ensures ∙ c.if-not-is_name.false,
      (a_number _ (sym c.in-Value.is ∙ c.read_number.ensures)).0,
      no_number _ (sym c.in_default-read_number.is ∙ c.read_number-2.ensures),
    )

pub returns : goal.returns
unfolding parsed_from
returns c =
    let a = a_number _ (sym c.in-Value.is ∙ c.read_number.ensures) in
    let e = a_number _ (sym c.in-Value-read_number.is ∙ c.read_number-2.ensures) in
    rw (sym c.is_name.ensures ∙ c.if-not-is_name.false, a.0, e.0, a.1, e.1)
