use mathlib.Core.Bool.{not}
use mathlib.Core.Path.{ap}
use Rattle.player_record.specs.PlayerRecord.{finish_call}
use Rattle.blocks.proofs.calls.Blocks.{no_head, known, known_long}
use Rattle.player_record.proofs.Answers.{finish_done}
use borrow.Author.Rules.{rules}
use Rattle.player_record.proofs.seek_raw_finish.Goals as goal

pub returns-then-not-is_recorder : goal.returns-then-not-is_recorder
unfolding finish_call
returns-then-not-is_recorder c = no_head _ _ _ c.is_recorder.ensures (ap not c.if-not-is_recorder.true)

pub returns : goal.returns
returns c = finish_done _ _ _ _ c.put_recorded.ensures (known c.is_recorder.ensures (ap not c.if-not-is_recorder.false)) _ _ _ c.finish-made.ensures c.recorder_in-r.ensures

pub recorder_in-r-requires : goal.recorder_in-r-requires
recorder_in-r-requires c = known_long _ _ c.is_recorder.ensures (ap not c.if-not-is_recorder.false)

pub put_recorded-requires : goal.put_recorded-requires
put_recorded-requires c = search (rules, known_long _ _ c.is_recorder.ensures (ap not c.if-not-is_recorder.false))
