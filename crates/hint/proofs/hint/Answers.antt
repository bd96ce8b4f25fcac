use Rattle.std.proofs.Common.{sym, refl, arith}
use Rattle.rules.specs.Refusals.{refusal_number, answer_in, number_in}
use Rattle.index.proofs.Questions.{passes}
use Rattle.hint.specs.Hint.{answer_of}
use Rattle.hint.proofs.Answers.{ready, hint_16, hint_yes}
use Rattle.hint.proofs.hint.Goals as goal

pub returns-then-end-first : goal.returns-then-end-first
unfolding answer_of answer_in number_in refusal_number
returns-then-end-first c = hint_16 _ _ _ _ _ c.in_ok-check.ensures refl (omega arith)

pub read_for-requires : goal.read_for-requires
unfolding number_in
read_for-requires c = ready (passes _ _ (sym c.in_ok-check.ensures))

pub returns : goal.returns
unfolding answer_in number_in
returns c = hint_yes _ _ _ _ _ c.in_ok-check.ensures refl _ (omega arith) c.read_for.ensures
