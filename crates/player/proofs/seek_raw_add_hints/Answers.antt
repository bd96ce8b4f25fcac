use mathlib.Core.Bool.{not}
use mathlib.Core.Path.{ap}
use Rattle.player.specs.Player.{add_hints_call}
use Rattle.blocks.proofs.calls.Blocks.{no_head, known, known_long}
use Rattle.player.proofs.Answers.{add_hints_done}
use borrow.Author.Rules.{rules}
use Rattle.player.proofs.seek_raw_add_hints.Goals as goal

pub returns-then-not-is_index : goal.returns-then-not-is_index
unfolding add_hints_call
returns-then-not-is_index c = no_head _ _ _ c.is_index.ensures (ap not c.if-not-is_index.true)

pub returns : goal.returns
returns c = add_hints_done _ _ _ (known c.is_index.ensures (ap not c.if-not-is_index.false)) _ _ _ _ _ c.put_made.ensures c.add_hints-made.ensures c.index_in-x.ensures

pub index_in-x-requires : goal.index_in-x-requires
index_in-x-requires c = known_long _ _ c.is_index.ensures (ap not c.if-not-is_index.false)

pub put_made-requires : goal.put_made-requires
put_made-requires c = search (rules, known_long _ _ c.is_index.ensures (ap not c.if-not-is_index.false))
