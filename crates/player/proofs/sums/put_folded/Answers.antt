use mathlib.Core.Path.{ap}
use Rattle.blocks.proofs.calls.Into.{refused, accepted}
use Rattle.player.specs.Player.{folded_of}
use borrow.Author.Rules.{rules}
use Rattle.player.proofs.sums.put_folded.Goals as goal

pub enum_known-folded : goal.enum_known-folded
unfolding folded_of
enum_known-folded c = search rules

pub enum_known-folded-in-Sum-1 : goal.enum_known-folded-in-Sum-1
unfolding folded_of
enum_known-folded-in-Sum-1 c = search rules

pub one_word-requires : goal.one_word-requires
unfolding folded_of
one_word-requires c = search rules

pub write_words-requires : goal.write_words-requires
unfolding folded_of
write_words-requires c = search rules

pub returns-in-Refused : goal.returns-in-Refused
unfolding folded_of
returns-in-Refused c = refused _ _ (ap folded_of c.in-Refused.is)

pub shape_of-answer : goal.shape_of-answer
unfolding folded_of
shape_of-answer c = search rules

pub returns-in-Sum : goal.returns-in-Sum
unfolding folded_of
returns-in-Sum c =
    accepted _ _ (ap folded_of c.in-Sum.is) c.write_words.ensures c.one_word.ensures
