use Rattle.lacks.proofs.Passing.{rows, row_inside, item_on, item_end}
use native.Mathlib.Omega.{arith}
use native.Mathlib.Nat.{add-zero}
use Rattle.lacks.proofs.missing_records.Goals as goal
use Rattle.lacks.proofs.missing_records.Goals.{then-not-stands_at, else-not-stands_at}

pub loop-j-init : goal.loop-j-init
loop-j-init c = record { own = omega arith; other = omega arith; few = omega arith; total = omega arith }

pub overflow_mul-j : goal.overflow_mul-j
overflow_mul-j c =
    let f =
    (row_inside c.args.s c.args.n c.args.m c.args.own.now c.args.other.now c.width-w.ensures c.loop-j-test.true
    c.requires.1).0 in
    omega arith

pub read_u32-low-requires : goal.read_u32-low-requires
read_u32-low-requires c =
    (row_inside c.args.s c.args.n c.args.m c.args.own.now c.args.other.now c.width-w.ensures c.loop-j-test.true
    c.requires.1).0

pub skip-i-requires : goal.skip-i-requires
skip-i-requires c =
    let r = rows c.args.s c.args.n c.args.m c.args.own.now c.args.other.now c.width-w.ensures c.requires.0 in
    (r.0, r.1, c.loop-j.invariant.own)

pub stands_at-requires : goal.stands_at-requires
stands_at-requires c =
    let f =
    (row_inside c.args.s c.args.n c.args.m c.args.own.now c.args.other.now c.width-w.ensures c.loop-j-test.true
    c.requires.1).1 in
    (c.requires.0, f)

pub loop-j-preserved : goal.loop-j-preserved
loop-j-preserved c =
    let on = item_on c.args.s c.args.n c.args.m c.args.own.now c.args.other.now c.width-w.ensures c.loop-j.invariant
    c.loop-j-test.true c.read_u32-low.ensures c.skip-i.ensures c.stands_at.ensures in
    elim c.if-not-stands_at.branch [
      | then-not-stands_at w ↦ rw w.count-is (rw w.if-not-stands_at.true at on)
      | else-not-stands_at w ↦ rw w.count-is (rw (w.if-not-stands_at.false, add-zero) at on)
    ]

pub returns : goal.returns
returns c =
    item_end c.args.s c.args.n c.args.m c.args.own.now c.args.other.now c.width-w.ensures c.loop-j.invariant
    c.loop-j-test.false
