use mathlib.Core.Path.{refl}
use native.Mathlib.Omega.{arith}
use Rattle.rules.specs.Sections.{confirmed_lsn}
use Rattle.rules.specs.Hints.{held_confirmation}
use Rattle.laws.proofs.Layouts.{confirmation_layout}
use Rattle.laws.proofs.hint_lists.Steps.{merging_start, merging_room, merging_step, merging_end}
use Rattle.confirmations.proofs.confirm.merge_down.Goals as goal

pub loop-p-init : goal.loop-p-init
loop-p-init c = (refl, merging_start confirmed_lsn held_confirmation confirmation_layout c.requires)

pub take_first-first-requires : goal.take_first-first-requires
take_first-first-requires c =
    let u = c.loop-p.invariant in
    record {
      own = u.1.own;
      other = u.1.other;
      some = c.loop-p-test.true;
      own_there = omega arith;
      other_there = c.requires.other_there;
    }

pub write_confirmation-requires : goal.write_confirmation-requires
write_confirmation-requires c =
    let u = c.loop-p.invariant in
    omega (
      arith,
      merging_room confirmed_lsn held_confirmation confirmation_layout c.requires u.1
          c.take_first-first.ensures,
    )

pub overflow_add-k : goal.overflow_add-k
overflow_add-k c =
    let u = c.loop-p.invariant in
    omega (
      arith,
      merging_room confirmed_lsn held_confirmation confirmation_layout c.requires u.1
          c.take_first-first.ensures,
    )

pub loop-p-preserved : goal.loop-p-preserved
loop-p-preserved c =
    let u = c.loop-p.invariant in (
      omega (arith, c.write_confirmation.auto),
      merging_step confirmed_lsn held_confirmation
          confirmation_layout c.requires u.1 c.take_first-first.ensures u.0
          c.write_confirmation.ensures,
    )

pub returns : goal.returns
returns c =
    merging_end confirmed_lsn held_confirmation confirmation_layout c.requires
    c.loop-p.invariant.1 c.loop-p-test.false
