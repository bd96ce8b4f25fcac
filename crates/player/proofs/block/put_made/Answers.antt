use mathlib.Core.Path.{ap}
use Rattle.blocks.proofs.calls.Into.{refused, accepted}
use Rattle.index.specs.Index.{made_of}
use borrow.Author.Rules.{rules}
use Rattle.player.proofs.block.put_made.Goals as goal

pub enum_known-made : goal.enum_known-made
unfolding made_of
enum_known-made c = search rules

pub enum_known-made-in-Index-1 : goal.enum_known-made-in-Index-1
unfolding made_of
enum_known-made-in-Index-1 c = search rules

pub index_words-requires : goal.index_words-requires
unfolding made_of
index_words-requires c = search rules

pub write_words-requires : goal.write_words-requires
unfolding made_of
write_words-requires c = search rules

pub returns-in-Refused : goal.returns-in-Refused
unfolding made_of
returns-in-Refused c = refused _ _ (ap made_of c.in-Refused.is)

pub shape_of-head : goal.shape_of-head
unfolding made_of
shape_of-head c = search rules

pub returns-in-Index : goal.returns-in-Index
unfolding made_of
returns-in-Index c =
    accepted _ _ (ap made_of c.in-Index.is) c.write_words.ensures c.index_words.ensures
