use mathlib.Core.Bool.{not}
use mathlib.Core.Path.{ap}
use Rattle.player_record.specs.PlayerRecord.{keep_hint_call}
use Rattle.blocks.proofs.calls.Blocks.{no_head, known, known_long}
use Rattle.player_record.proofs.hint_calls.Answers.{keep_hint_done}
use Rattle.player_record.proofs.hint_calls.seek_raw_keep_hint.Goals as goal

pub returns-then-not-is_index : goal.returns-then-not-is_index
unfolding keep_hint_call
returns-then-not-is_index c = no_head _ _ _ c.is_index.ensures (ap not c.if-not-is_index.true)

pub returns : goal.returns
returns c = keep_hint_done _ (known c.is_index.ensures (ap not c.if-not-is_index.false)) _ _ _ _ _ _ c.made_number.ensures c.keep_hint-made.ensures c.index_in-x.ensures

pub index_in-x-requires : goal.index_in-x-requires
index_in-x-requires c = known_long _ _ c.is_index.ensures (ap not c.if-not-is_index.false)
