use mathlib.Core.Bool.{not}
use mathlib.Core.Path.{sym, ap}
use mir.Syntax.{w32}
use mir.ValLaws.{to_z-of_z}
use Rattle.player_record.specs.PlayerRecord.{record_call}
use Rattle.blocks.proofs.calls.Blocks.{no_head, known, known_long}
use Rattle.player_record.proofs.Answers.{record_done}
use borrow.Author.Rules.{rules}
use Rattle.player_record.proofs.seek_raw_record.Goals as goal

pub returns-then-not-is_recorder : goal.returns-then-not-is_recorder
unfolding record_call
returns-then-not-is_recorder c = no_head _ _ _ c.is_recorder.ensures (ap not c.if-not-is_recorder.true)

pub returns : goal.returns
returns c =
    let same = c.record-made.ensures.same in
    rw (
      c.checkpoints-1.given.1.1 (sym same.1),
      c.frames-1.given.1.1 (sym same.3),
      c.store-1.given.1.1 (sym same.5),
      c.parts-1.given.1.1 (sym same.7),
    )
    (record_done _ _ _ _ c.put_recorded.ensures (known c.is_recorder.ensures (ap not c.if-not-is_recorder.false)) _ _ _ _ _ _ _ _ _ _
    c.record-made.ensures.recorded c.recorder_in-r.ensures (rw (to_z-of_z w32 c.args.remaining c.ranges.remaining) at c.frame_from-frame.ensures))

pub recorder_in-r-requires : goal.recorder_in-r-requires
recorder_in-r-requires c = known_long _ _ c.is_recorder.ensures (ap not c.if-not-is_recorder.false)

pub put_recorded-requires : goal.put_recorded-requires
put_recorded-requires c = search (rules, known_long _ _ c.is_recorder.ensures (ap not c.if-not-is_recorder.false))
