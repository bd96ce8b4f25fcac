use mathlib.Core.Path.{ap}
use Rattle.blocks.proofs.calls.Into.{refused, accepted}
use Rattle.sizes.specs.Sizes.{sized_of}
use borrow.Author.Rules.{rules}
use Rattle.player.proofs.block.put_sizes.Goals as goal

pub enum_known-sized : goal.enum_known-sized
unfolding sized_of
enum_known-sized c = search rules

pub enum_known-sized-in-Sizes-1 : goal.enum_known-sized-in-Sizes-1
unfolding sized_of
enum_known-sized-in-Sizes-1 c = search rules

pub size_words-requires : goal.size_words-requires
unfolding sized_of
size_words-requires c = search rules

pub write_words-requires : goal.write_words-requires
unfolding sized_of
write_words-requires c = search rules

pub returns-in-Refused : goal.returns-in-Refused
unfolding sized_of
returns-in-Refused c = refused _ _ (ap sized_of c.in-Refused.is)

pub shape_of-answer : goal.shape_of-answer
unfolding sized_of
shape_of-answer c = search rules

pub returns-in-Sizes : goal.returns-in-Sizes
unfolding sized_of
returns-in-Sizes c =
    accepted _ _ (ap sized_of c.in-Sizes.is) c.write_words.ensures c.size_words.ensures
