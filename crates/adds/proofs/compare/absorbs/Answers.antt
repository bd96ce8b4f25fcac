use borrow.Author.Tests.{lt-ltb, le-ltb}
use mathlib.Core.Bool.{not}
use mathlib.Core.Path.{ap}
use Rattle.adds.proofs.compare.Passing.{absorb_end, absorb_short, absorb_moved, absorb_on}
use Rattle.merge.proofs.keys.Laws.{read_turn}
use Rattle.tables.proofs.Walk.{records_turn}
use Rattle.rules.specs.File.{decode_confirmation}
use Rattle.field.proofs.Records.{records_length}
use native.Mathlib.Omega.{arith}
use mathlib.Core.Path.{refl}
use Rattle.adds.proofs.compare.absorbs.Goals as goal

pub loop-j-init : goal.loop-j-init
loop-j-init c = record { own = omega arith; other = omega arith; rest = refl }

pub returns-then-n-i : goal.returns-then-n-i
returns-then-n-i c =
    absorb_short c.loop-j.invariant (records_turn 16 decode_confirmation _ _ _ c.loop-j-test.true)
    (records_length 16 decode_confirmation _ _) c.if-n-i.true

pub returns-then-not-unmoved : goal.returns-then-not-unmoved
returns-then-not-unmoved c =
    absorb_moved c.loop-j.invariant
    (read_turn 16 decode_confirmation _ _ _ c.loop-j-test.true
    c.read_confirmation-d.ensures)
    (read_turn 16 decode_confirmation _ _ _ c.if-n-i.false c.read_confirmation-c.ensures)
    c.unmoved.ensures
    (ap not c.if-not-unmoved.true)

pub loop-j-preserved-then-d-c : goal.loop-j-preserved-then-d-c
loop-j-preserved-then-d-c c =
    absorb_on c.loop-j.invariant
    (read_turn 16 decode_confirmation _ _ _ c.loop-j-test.true
    c.read_confirmation-d.ensures)
    (read_turn 16 decode_confirmation _ _ _ c.if-n-i.false c.read_confirmation-c.ensures)
    c.if-n-i.false
    c.loop-j-test.true c.unmoved.ensures (ap not c.if-not-unmoved.false) (rw (le-ltb _ _ c.if-d-c.true))

pub loop-j-preserved : goal.loop-j-preserved
loop-j-preserved c =
    absorb_on c.loop-j.invariant
    (read_turn 16 decode_confirmation _ _ _ c.loop-j-test.true
    c.read_confirmation-d.ensures)
    (read_turn 16 decode_confirmation _ _ _ c.if-n-i.false c.read_confirmation-c.ensures)
    c.if-n-i.false
    c.loop-j-test.true c.unmoved.ensures (ap not c.if-not-unmoved.false) (rw (lt-ltb _ _ c.if-d-c.false))

pub returns : goal.returns
returns c = absorb_end c.loop-j.invariant (records_length 16 decode_confirmation _ _) c.loop-j-test.false
