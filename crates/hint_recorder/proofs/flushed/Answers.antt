use mathlib.Core.Bool.{not}
use mathlib.Core.Path.{ap}
use native.Mathlib.Omega.{arith}
use borrow.Author.Rules.{rules}
use Rattle.hint_recorder.proofs.Recorder.{has_room, flushed_none, flushed_full, flushed_listed}
use Rattle.hint_recorder.proofs.flushed.Goals as goal

pub returns-in_default : goal.returns-in_default
returns-in_default c =
    flushed_none c.args.r c.args.list.now c.requires (λ i. (c.type_inv.list i).fits)
    c.in_default.is c.cleared.ensures

pub returns-then-not-has_room : goal.returns-then-not-has_room
returns-then-not-has_room c =
    flushed_full c.args.r c.args.list.now c.requires (λ i. (c.type_inv.list i).fits) c.in-Some.is
    c.has_room.ensures (ap not c.if-not-has_room.true) c.cleared-then-not-has_room.ensures

pub write_given-requires : goal.write_given-requires
write_given-requires c = omega (arith, c.requires.room, has_room c.args.r.count c.has_room.ensures (ap not c.if-not-has_room.false))

pub returns : goal.returns
returns c =
    flushed_listed c.args.r c.args.list.now c.requires (λ i. search rules) c.in-Some.is
    c.has_room.ensures (ap not c.if-not-has_room.false) c.write_given.ensures c.cleared-2.ensures
