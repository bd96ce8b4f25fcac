use mathlib.Core.Path.{refl}
use Rattle.sections.proofs.Questions.{asked_all}
use Rattle.header.proofs.questions.size_number.Goals as goal

pub returns : goal.returns
returns c =
    asked_all _ refl
    (rw (
      c.ask.ensures,
      c.ask-n-4.ensures,
      c.ask-n-3.ensures,
      c.ask-n-2.ensures,
      c.ask-n.ensures,
      c.interval_ok.ensures,
      c.sections_fit.ensures,
    ))
