use mathlib.Core.Path.{refl}
use native.Mathlib.Omega.{arith}
use Rattle.rules.specs.Load.{end_number}
use Rattle.sections.proofs.Questions.{asked_all, ordered}
use borrow.Author.Rules.{rules}
use Rattle.inspect.proofs.questions.end_questions.Goals as goal

pub ending_ok-requires : goal.ending_ok-requires
ending_ok-requires c = let o = ordered c.args.area c.requires in search rules

pub overflow_cast-h-2 : goal.overflow_cast-h-2
overflow_cast-h-2 c = omega arith

pub returns : goal.returns
unfolding end_number
returns c =
    λ cs ps e f.
    asked_all _ refl
    (rw (
      c.ask.ensures,
      c.min-count.ensures,
      c.counted.ensures cs e,
      c.ask-n-3.ensures,
      c.unset_ok.ensures,
      c.ask-n-2.ensures,
      c.ending_ok.ensures cs e,
      c.ask-n.ensures,
      c.ending_of-ending.ensures.1,
      f,
    ))
