use mathlib.Core.Bool.{not}
use mathlib.Core.Path.{ap}
use Rattle.player_record.specs.PlayerRecord.{see_call}
use Rattle.blocks.proofs.calls.Blocks.{no_head, known, known_long}
use Rattle.player_record.proofs.hint_calls.Answers.{see_done}
use borrow.Author.Rules.{rules}
use Rattle.player_record.proofs.hint_calls.seek_raw_see.Goals as goal

pub returns-then-not-is_hint_recorder : goal.returns-then-not-is_hint_recorder
unfolding see_call
returns-then-not-is_hint_recorder c = no_head _ _ _ c.is_hint_recorder.ensures (ap not c.if-not-is_hint_recorder.true)

pub returns : goal.returns
returns c = see_done _ _ _ (known c.is_hint_recorder.ensures (ap not c.if-not-is_hint_recorder.false)) _ c.hint_recorder_in-r.ensures _ _ _ c.put_saw.ensures _ _ c.see-saw.ensures

pub hint_recorder_in-r-requires : goal.hint_recorder_in-r-requires
hint_recorder_in-r-requires c = known_long _ _ c.is_hint_recorder.ensures (ap not c.if-not-is_hint_recorder.false)

pub put_saw-requires : goal.put_saw-requires
put_saw-requires c = search (rules, known_long _ _ c.is_hint_recorder.ensures (ap not c.if-not-is_hint_recorder.false))
