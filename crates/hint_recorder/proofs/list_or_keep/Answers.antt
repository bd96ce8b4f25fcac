use Rattle.std.proofs.Common.{sym, ltb-true, arith, rules}
use Rattle.hint_recorder.proofs.Recorder.{hint_listed, hint_unspaced, hint_full}
use Rattle.hint_recorder.proofs.list_or_keep.Goals as goal
use Rattle.hint_recorder.proofs.list_or_keep.Goals.{else-is_spaced-via-then-is_spaced+else-has_room, else-is_spaced-via-else-is_spaced}

pub write_given-requires : goal.write_given-requires
write_given-requires c = omega (arith, c.requires.room, ltb-true c.args.r.count 65536 (sym c.if-has_room.ensures))

pub returns-then-has_room : goal.returns-then-has_room
returns-then-has_room c =
    hint_listed c.args.r c.args.list.now c.requires (λ i. search rules) c.args.h c.if-is_spaced.ensures
    c.if-has_room.ensures c.write_given.ensures c.cleared.ensures

pub returns : goal.returns
returns c =
    let b = λ (i : _). (c.type_inv.list i).fits in
    elim c.else-is_spaced.branch [
      | else-is_spaced-via-then-is_spaced+else-has_room w ↦
          hint_full c.args.r c.args.list.now c.requires b c.args.h w.if-is_spaced.ensures w.if-has_room.ensures
      | else-is_spaced-via-else-is_spaced w ↦
          hint_unspaced c.args.r c.args.list.now c.requires b c.args.h w.if-is_spaced.ensures
    ]
