use mathlib.Core.List.{[]}
use native.Mathlib.Omega.{arith}
use Rattle.tables.specs.Index.{tables}
use Rattle.view.proofs.Views.{listener_room, workshop_room, listener_written, workshop_written}
use Rattle.view.proofs.write_view.Goals as goal

pub put_listener-at-requires : goal.put_listener-at-requires
put_listener-at-requires c = (c.requires.0.start, c.requires.0.checkpoints, listener_room _ _ ((tables c.args.checkpoints.now [] [] c.args.parts.now c.args.malformed.now c.args.hints.now c.args.confirmed.now)) c.requires.2)

pub returns-else-role-ne1 : goal.returns-else-role-ne1
returns-else-role-ne1 c = listener_written _ _ ((tables c.args.checkpoints.now [] [] c.args.parts.now c.args.malformed.now c.args.hints.now c.args.confirmed.now)) c.if-role-ne1.false c.put_listener-at.ensures (listener_room _ _ ((tables c.args.checkpoints.now [] [] c.args.parts.now c.args.malformed.now c.args.hints.now c.args.confirmed.now)) c.requires.2)

pub put_workshop-requires : goal.put_workshop-requires
put_workshop-requires c =
    let l = workshop_room _ _ ((tables c.args.checkpoints.now [] [] c.args.parts.now c.args.malformed.now c.args.hints.now c.args.confirmed.now)) c.if-role-ne1.true c.requires.2 in
    (c.requires.0, omega (arith, l, c.put_listener-at.ensures.ends, c.put_listener-at.auto.out))

pub returns-then-role-ne1 : goal.returns-then-role-ne1
returns-then-role-ne1 c =
    workshop_written _ _ ((tables c.args.checkpoints.now [] [] c.args.parts.now c.args.malformed.now c.args.hints.now c.args.confirmed.now)) c.requires.1 c.if-role-ne1.true c.put_listener-at.ensures c.put_workshop.ensures
    (workshop_room _ _ ((tables c.args.checkpoints.now [] [] c.args.parts.now c.args.malformed.now c.args.hints.now c.args.confirmed.now)) c.if-role-ne1.true c.requires.2)
