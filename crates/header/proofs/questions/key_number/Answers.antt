use mathlib.Core.Path.{refl}
use Rattle.sections.proofs.Questions.{asked_all}
use Rattle.header.proofs.questions.key_number.Goals as goal

pub returns : goal.returns
returns c =
    asked_all _ refl
    (rw (
      c.ask.ensures,
      c.ask-n-3.ensures,
      c.ask-n-2.ensures,
      c.ask-n.ensures,
      c.same_key.ensures,
      c.key_of.ensures,
      c.flags_ok.ensures,
      c.known_version.ensures,
    ))
